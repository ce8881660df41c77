-- The starred ledger samples of 01, "Samples to try", as rows: an event at a ledger with T and R, and T, R and the state after it.
use Rattle.std.specs.Prelude.{ℕ, ◌≡◌, false, List, [], ◌∷◌}
use Rattle.ledger.specs.declared.state.State.{State}
use Rattle.ledger.specs.declared.state.State.TheVariants.{Active, Passive, BusOff}
use Rattle.ledger.specs.declared.event.Event.{Event}
use Rattle.ledger.specs.declared.event.Event.TheVariants.{ErrorFlagSent, ReceivedWell}
use Rattle.ledger.specs.Rules.{ledger, next, state_of}

pub record LedgerSample : Type 0 where
  pub T : ℕ
  pub R : ℕ
  pub event : Event
  pub T_after : ℕ
  pub R_after : ℕ
  pub state_after : State

abbrev pub sample : ℕ → ℕ → Event → ℕ → ℕ → State → LedgerSample
sample t r e t' r' s = record { T = t; R = r; event = e; T_after = t'; R_after = r'; state_after = s }

abbrev pub ledger_samples : List LedgerSample
ledger_samples =
    -- T 120 + 8 is passive
    sample 120 0 ErrorFlagSent 128 0 Passive ∷
    -- T 247 + 8 = 255 isn't off
    sample 247 0 ErrorFlagSent 255 0 Passive ∷
    -- T 248 + 8 = 256 is
    sample 248 0 ErrorFlagSent 256 0 BusOff ∷
    -- R 128, one good reception: 127, active if T allows
    sample 0 128 ReceivedWell 0 127 Active ∷
    sample 127 128 ReceivedWell 127 127 Active ∷
    sample 128 128 ReceivedWell 128 127 Passive ∷
    []

-- the rules say what the row says
abbrev pub HoldsOfLedger : LedgerSample → Type 0
HoldsOfLedger s =
    (next s.event (ledger s.T s.R 0 false) ≡ ledger s.T_after s.R_after 0 false) ×
    (state_of (ledger s.T_after s.R_after 0 false) ≡ s.state_after)
