-- How a state and a ledger are printed: docs/PROGRAMS.md, "count".
use Rattle.std.specs.Prelude.{ℕ, List, ◌++◌, Option, Some, codes, decimal}
use Rattle.ledger.specs.declared.ledger.Ledger.{Ledger}
use Rattle.ledger.specs.declared.state.State.{State}
use Rattle.ledger.specs.declared.state.State.TheVariants.{Active, Passive, BusOff}
use Rattle.ledger.specs.Rules.{state_of}

abbrev pub name : State → List ℕ
name Active = codes "active"
name Passive = codes "passive"
name BusOff = codes "off"

abbrev pub word : State → Option (List ℕ)
word s = Some (name s)

-- `T R groups STATE`
abbrev pub line : Ledger → Option (List ℕ)
line l =
    Some (decimal l.transmit.0 ++ codes " " ++ decimal l.receive.0 ++ codes " " ++ decimal l.groups ++ codes " " ++ name (state_of l))
