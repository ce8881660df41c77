-- What bytes that are read offer to the listener: space, tab, carriage return and line feed are skipped, the characters 0 and 1 are
-- samples, and any other byte is offered as it is.
use Rattle.std.specs.Prelude.{ℕ, Bool, cond, ◌||◌, List, [], ◌∷◌, ◌==◌}

abbrev pub is_skipped : ℕ → Bool
is_skipped b = b == 32 || b == 9 || b == 13 || b == 10

abbrev pub sample_of : ℕ → ℕ
sample_of b = cond (b == 48) 0 (cond (b == 49) 1 b)

abbrev pub offered_of : List ℕ → List ℕ
offered_of [] = []
offered_of (b ∷ bs) = cond (is_skipped b) (offered_of bs) (sample_of b ∷ offered_of bs)
