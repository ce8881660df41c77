-- The numbers of the two counts (01 "The fault ledger", "When the handset says no"), each named once.
use Rattle.std.specs.Prelude.{ℕ}

-- an event that does not raise a count by 1 raises it by so many
abbrev pub raise : ℕ
raise = 8

-- T or R above this: passive, where the station is not bus-off
abbrev pub passive_above : ℕ
passive_above = 127

-- T above this: bus-off
abbrev pub off_above : ℕ
off_above = 255

-- R is held at this (house choice); so it is also R at most
abbrev pub receive_held : ℕ
receive_held = 255

-- R above this becomes this at a good reception (house choice inside the standard's 119 to 127)
abbrev pub received_down_to : ℕ
received_down_to = 127

-- T at most
abbrev pub most_transmit : ℕ
most_transmit = 263
