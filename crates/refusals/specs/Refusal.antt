-- The refusals by number: 01, "When the handset says no"; W-207 for 8.
use Rattle.std.specs.Prelude.{ℕ, List, Option, Some, Result, Ok, Err, ⊤, decimal}
use Rattle.refusals.specs.declared.refusal.Refusal.{Refusal}
use Rattle.refusals.specs.declared.refusal.Refusal.TheVariants.{Identifier, Code, Count, Start, Room, Sample, Record, OldControllers}

abbrev pub number : Refusal → ℕ
number Identifier = 1
number Code = 2
number Count = 3
number Start = 4
number Room = 5
number Sample = 6
number Record = 7
number OldControllers = 8

-- what a test answers, as a number: 0 where it refuses nothing
abbrev pub told : Result ⊤ Refusal → ℕ
told (Ok u) = 0
told (Err x) = number x

-- a refusal is printed as its number
abbrev pub numeral : Refusal → Option (List ℕ)
numeral x = Some (decimal (number x))
