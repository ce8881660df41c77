-- A history after which sixteen recessive samples are not enough: a new listener is ready, and hears base data frame 062, whose CRC
-- ends in four recessive bits, up to those. They are 4 at the end of the CRC, 3 for the delimiters and the slot, 7, and 2 of the intermission.
use Rattle.std.specs.Prelude.{ℕ, List, [], ◌∷◌, ◌++◌}
use Rattle.wire.specs.Numbers.{idle}
use Rattle.claims.specs.Lines.{recessive}

abbrev pub before_sixteen : List ℕ
before_sixteen =
    recessive idle
    ++ (0 ∷ 0 ∷ 0 ∷ 0 ∷ 0 ∷ 1 ∷ 1 ∷ 1 ∷ 0 ∷ 0 ∷ 0 ∷ 1 ∷ 0 ∷ 0 ∷ 0 ∷ 0 ∷ 0 ∷ 1 ∷ 0 ∷ 0 ∷ 0 ∷ 0 ∷ 0 ∷ 1 ∷ 1 ∷ 1 ∷ 1 ∷ 1 ∷ 0 ∷ 0 ∷ 1 ∷ 0 ∷ 0 ∷ 0 ∷ [])
