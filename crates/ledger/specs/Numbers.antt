-- The fault ledger's own numbers (01 "The fault ledger", "When the handset says no"), each named once; those of its counts are in crate counts.
use Rattle.std.specs.Prelude.{ℕ}

-- so many recessive groups bring a station back
abbrev pub recovery_groups : ℕ
recovery_groups = 128

-- the range: the recovery groups at most
abbrev pub most_groups : ℕ
most_groups = 127
