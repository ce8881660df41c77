-- The fault ledger's rules: 01, "The fault ledger" (001 section 8.1.4; 002 section 8), and W-210 for recoveries. What an event makes of a
-- ledger, and the state that a ledger stands for.
use Rattle.std.specs.Prelude.{ℕ, ◌+◌, ◌-◌, Bool, true, false, cond, ltb}
use Rattle.counts.specs.Numbers.{raise}
use Rattle.counts.specs.Counts.{held, off, is_passive, unacknowledged, received}
use Rattle.ledger.specs.declared.ledger.Ledger.{Ledger}
use Rattle.ledger.specs.declared.state.State.{State}
use Rattle.ledger.specs.declared.state.State.TheVariants.{Active, Passive, BusOff}
use Rattle.ledger.specs.declared.event.Event.{Event}
use Rattle.ledger.specs.declared.event.Event.TheVariants.{ErrorSeen, DominantAfterFlag, FlagErrorAsTransmitter, FlagErrorAsReceiver, ErrorFlagSent, AcknowledgeError, StuffBitOverwritten, SentWell, ReceivedWell, ElevenRecessive, Ask}
use Rattle.ledger.specs.Numbers.{recovery_groups}

-- T, the transmit count, and R, the receive count
pub record Counts : Type 0 where
  pub T : ℕ
  pub R : ℕ

abbrev pub counts : ℕ → ℕ → Counts
counts t r = record { T = t; R = r }

-- 01's list: what each event makes of T and R where the station is not bus-off (numbers from 0 up, so 0 - 1 is 0)
unfoldable pub change : Event → ℕ → ℕ → Counts
-- error seen as receiver: R + 1
change ErrorSeen t r = counts t (held (r + 1))
-- dominant first bit after own error flag, as receiver: R + 8
change DominantAfterFlag t r = counts t (held (r + raise))
-- bit error in own active error or overload flag, or each further run of too many dominant bits after a flag: T + 8 as transmitter,
change FlagErrorAsTransmitter t r = counts (t + raise) r
-- R + 8 as receiver
change FlagErrorAsReceiver t r = counts t (held (r + raise))
-- error flag sent as transmitter: T + 8
change ErrorFlagSent t r = counts (t + raise) r
-- acknowledge error with no dominant bit seen in the own flag: T unchanged if the station was passive before, else T + 8
change AcknowledgeError t r = counts (unacknowledged t r) r
-- recessive stuff bit overwritten during arbitration: T unchanged
change StuffBitOverwritten t r = counts t r
-- frame sent well: T - 1, or 0 if it was 0
change SentWell t r = counts (t - 1) r
-- frame received well: R - 1 for 1 to 127; 0 stays; above 127 becomes 127
change ReceivedWell t r = counts t (received r)
-- eleven recessive bits seen: counts only when bus-off
change ElevenRecessive t r = counts t r
-- recovery asked for (W-210): changes nothing when not bus-off
change Ask t r = counts t r

-- the ledger that holds T, R, the groups, and whether a recovery was asked for
abbrev pub ledger : ℕ → ℕ → ℕ → Bool → Ledger
ledger t r g a = record { transmit = record { 0 = t }; receive = record { 0 = r }; groups = g; asked = a }

-- both counts start at 0
abbrev pub new : Ledger
new = ledger 0 0 0 false

-- bus-off: T above 255
abbrev pub is_off : Ledger → Bool
is_off l = off l.transmit.0

-- eleven recessive bits seen
abbrev pub is_group : Event → Bool
is_group ErrorSeen = false
is_group DominantAfterFlag = false
is_group FlagErrorAsTransmitter = false
is_group FlagErrorAsReceiver = false
is_group ErrorFlagSent = false
is_group AcknowledgeError = false
is_group StuffBitOverwritten = false
is_group SentWell = false
is_group ReceivedWell = false
is_group ElevenRecessive = true
is_group Ask = false

-- recovery asked for
abbrev pub is_ask : Event → Bool
is_ask ErrorSeen = false
is_ask DominantAfterFlag = false
is_ask FlagErrorAsTransmitter = false
is_ask FlagErrorAsReceiver = false
is_ask ErrorFlagSent = false
is_ask AcknowledgeError = false
is_ask StuffBitOverwritten = false
is_ask SentWell = false
is_ask ReceivedWell = false
is_ask ElevenRecessive = false
is_ask Ask = true

-- one group more: the 128th sets T, R and the groups to 0, and uses up the request
abbrev pub one_more : Ledger → Ledger
one_more l = cond (ltb (l.groups + 1) recovery_groups) (ledger l.transmit.0 l.receive.0 (l.groups + 1) l.asked) new

-- a recessive group when bus-off: it counts only after a recovery was asked for (W-210; 001 8.1.4.4, "Upon a restart request")
abbrev pub grouped : Ledger → Ledger
grouped l = cond l.asked (one_more l) l

-- asking when bus-off; again, it changes nothing (W-210)
abbrev pub asking : Ledger → Ledger
asking l = ledger l.transmit.0 l.receive.0 l.groups true

-- when bus-off only recessive groups and the asking count and every other event changes nothing
unfoldable pub waiting : Event → Ledger → Ledger
waiting e l = cond (is_group e) (grouped l) (cond (is_ask e) (asking l) l)

-- an event when not bus-off
abbrev pub counting : Event → Ledger → Ledger
counting e l =
    let c = change e l.transmit.0 l.receive.0 in
    ledger c.T c.R l.groups l.asked

-- THE RULES: an event and a ledger to the next ledger
unfoldable pub next : Event → Ledger → Ledger
next e l = cond (is_off l) (waiting e l) (counting e l)

-- bus-off; else passive where T or R is above 127; else active
abbrev pub state_of : Ledger → State
state_of l = cond (is_off l) BusOff (cond (is_passive l.transmit.0 l.receive.0) Passive Active)
