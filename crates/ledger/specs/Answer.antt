-- What a call of the ledger answers: 01, "When the handset says no", number 7.
use Rattle.std.specs.Prelude.{ℕ, Bool, cond, not, ◌&&◌, ◌||◌, leb, eqb, Result, Ok, Err}
use Rattle.counts.specs.Numbers.{receive_held, most_transmit}
use Rattle.ledger.specs.declared.ledger.Ledger.{Ledger}
use Rattle.ledger.specs.declared.ledger.OutOfRange.{OutOfRange}
use Rattle.ledger.specs.declared.event.Event.{Event}
use Rattle.ledger.specs.Numbers.{most_groups}
use Rattle.ledger.specs.Rules.{is_off, next}

-- the ranges: transmit count 0 to 263, receive count 0 to 255, recovery groups 0 to 127; asked only when bus-off, and groups above 0 only
-- when asked (W-210)
unfoldable pub in_range : Ledger → Bool
in_range l =
    leb l.transmit.0 most_transmit
    && leb l.receive.0 receive_held
    && leb l.groups most_groups
    && (is_off l || not l.asked)
    && (l.asked || eqb l.groups 0)

-- a call's answer in 01's words: the number of the refusal, or 0, and the ledger handed back
pub record Ledgered : Type 0 where
  pub refusal : ℕ
  pub ledger : Ledger

-- not refused, with the next ledger
abbrev pub accepted : Ledger → Ledgered
accepted l = record { refusal = 0; ledger = l }

-- refusal 7, with the record that was given
abbrev pub refused : Ledger → Ledgered
refused l = record { refusal = 7; ledger = l }

-- what the code's answer says in 01's words
abbrev pub told : Result Ledger OutOfRange → Ledgered
told (Ok l) = accepted l
told (Err x) = refused x.0

-- a ledger that lies in its ranges, or else the refusal
abbrev pub checked : Ledger → Result Ledger OutOfRange
checked l = cond (in_range l) (Ok l) (Err (record { 0 = l }))

-- what the call for an event answers
unfoldable pub after : Event → Ledger → Ledgered
after e l = cond (in_range l) (accepted (next e l)) (refused l)
