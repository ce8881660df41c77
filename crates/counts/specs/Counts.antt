-- How an event moves one count: 01, "The fault ledger" (001 section 8.1.4; 002 section 8). T is the transmit count, R the receive count.
use Rattle.std.specs.Prelude.{ℕ, ◌+◌, ◌-◌, min, Bool, cond, ◌||◌, ltb}
use Rattle.counts.specs.Numbers.{raise, passive_above, off_above, receive_held, received_down_to}

-- R is held at 255 (house choice)
abbrev pub held : ℕ → ℕ
held r = min r receive_held

-- bus-off: T above 255
abbrev pub off : ℕ → Bool
off t = ltb off_above t

-- T or R above 127: passive, where the station is not bus-off
abbrev pub is_passive : ℕ → ℕ → Bool
is_passive t r = ltb passive_above t || ltb passive_above r

-- T + 8; when bus-off no event raises T
abbrev pub raised : ℕ → ℕ
raised t = cond (off t) t (t + raise)

-- T after an acknowledge error
abbrev pub unacknowledged : ℕ → ℕ → ℕ
unacknowledged t r = cond (is_passive t r) t (t + raise)

-- R after a good reception; 127 is a house choice inside the standard's 119 to 127
abbrev pub received : ℕ → ℕ
received r = cond (ltb received_down_to r) received_down_to (r - 1)
