-- Unstuffing (01 "What the listener does at each sample"; 001 6.6.13.2): behind five equal samples comes the stuff bit, or the sixth
-- equal bit in a row; every other sample is a bit of the frame.
use Rattle.std.specs.Prelude.{ℕ, ◌≡◌, cond, false, ◌&&◌, List, [], ◌∷◌, eqb}
use Rattle.wire.specs.declared.runs.Run.{Run}
use Rattle.wire.specs.declared.runs.Sampled.{Sampled}
use Rattle.wire.specs.declared.runs.Sampled.TheVariants.{FrameBit, StuffBit, SixthEqual}
use Rattle.wire.specs.Numbers.{five}
use Rattle.wire.specs.Stuffing.{ran}

-- what the sample behind a run is
abbrev pub sampled_as : Run → ℕ → Sampled
sampled_as u b = cond (eqb u.len five) (cond (eqb b u.last) SixthEqual StuffBit) FrameBit

-- the bits of the frame among samples
abbrev pub unstuff_from : Run → List ℕ → List ℕ
unstuff_from u [] = []
unstuff_from u (b ∷ bs) = cond (eqb u.len five) (unstuff_from (ran u b) bs) (b ∷ unstuff_from (ran u b) bs)

-- no sample is the sixth equal one in a row
abbrev pub Unbroken : Run → List ℕ → Type 0
Unbroken u [] = Unit {0}
Unbroken u (b ∷ bs) = ((eqb u.len five && eqb b u.last) ≡ false) × Unbroken (ran u b) bs
