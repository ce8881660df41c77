-- What W-207 speaks of: the identifiers that old controllers do not take.
use Rattle.std.specs.Prelude.{ℕ, ◌≤◌, ◌<◌, List, take}
use Rattle.wire.specs.declared.idents.Ident.{Ident}
use Rattle.wire.specs.declared.idents.Ident.TheVariants.{Base, Extended}
use Rattle.wire.specs.Numbers.{base_width, highest_base, highest_old}
use Rattle.wire.specs.Bits.{bits}
use Rattle.claims.specs.Numbers.{upper_bits}

-- base identifiers 2,032 to 2,047
abbrev pub Barred : Ident → Type 0
Barred (Base i) = (highest_old < i.0) × (i.0 ≤ highest_base)
Barred (Extended i) = ⊥

-- the upper seven bits of a base identifier
abbrev pub upper_seven : ℕ → List ℕ
upper_seven i = take upper_bits (bits base_width i)
