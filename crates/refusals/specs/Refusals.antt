-- The writer's refusals (01 "When the handset says no"; W-207): a row for each number, in the order in which they are tried.
use Rattle.std.specs.Prelude.{ℕ, ◌-◌, Bool, false, cond, not, ◌&&◌, List, [], ◌∷◌, ◌++◌, eqb, ltb}
use Rattle.wire.specs.declared.idents.Ident.{Ident}
use Rattle.wire.specs.declared.idents.Ident.TheVariants.{Base, Extended}
use Rattle.wire.specs.declared.frames.Frame.{Frame}
use Rattle.wire.specs.Numbers.{highest_base, highest_extended, highest_old, highest_written}
use Rattle.wire.specs.Fields.{carried}

-- a refusal's number, and whether it applies
pub record Row : Type 0 where
  pub number : ℕ
  pub applies : Bool

abbrev pub row : ℕ → Bool → Row
row n t = record { number = n; applies = t }

-- the number of the first row that applies, or 0
abbrev pub first : List Row → ℕ
first [] = 0
first (r ∷ rs) = cond r.applies r.number (first rs)

-- 1: identifier above 2,047 (base) or 536,870,911 (extended)
abbrev pub too_large : Ident → Bool
too_large (Base i) = ltb highest_base i.0
too_large (Extended i) = ltb highest_extended i.0

-- 8: "old controllers" marked, and a base identifier from 2,032 on (002 3.2.1, 000 6.2.1); one above 2,047 has met 1
abbrev pub barred : Bool → Ident → Bool
barred old (Base i) = old && ltb highest_old i.0
barred old (Extended i) = false

-- 2: length code above 15
abbrev pub overlong : ℕ → Bool
overlong code = ltb highest_written code

-- 3: data frame: byte count differs from the length code, or from 8 for codes 9 to 15; remote frame: any byte given
abbrev pub miscounted : Bool → ℕ → ℕ → Bool
miscounted remote code count = not (eqb count (carried remote code))

-- of a frame, and whether "old controllers" is marked: smallest first, with one exception, 8 behind 1 and before 2 (W-207)
abbrev pub frame_rows : Frame → Bool → List Row
frame_rows f old =
    row 1 (too_large f.ident)
    ∷ row 8 (barred old f.ident)
    ∷ row 2 (overlong f.code)
    ∷ row 3 (miscounted f.remote f.code f.count)
    ∷ []

-- 4: start position greater than the capture's length
abbrev pub outside : ℕ → ℕ → Bool
outside size start = ltb size start

-- 5: the image is longer than the capture from the start position on
abbrev pub overflows : ℕ → ℕ → ℕ → Bool
overflows bits size start = ltb (size - start) bits

-- an image of so many bits at a start position of a capture of some size
abbrev pub place_rows : ℕ → ℕ → ℕ → List Row
place_rows bits size start = row 4 (outside size start) ∷ row 5 (overflows bits size start) ∷ []

-- what a frame is refused with by itself, or 0, whoever offers it
unfoldable pub frame_refusal : Frame → Bool → ℕ
frame_refusal f old = first (frame_rows f old)

-- what the place for an image is refused with, or 0
abbrev pub place_refusal : ℕ → ℕ → ℕ → ℕ
place_refusal bits size start = first (place_rows bits size start)

-- what the writer refuses a frame with, whose image has so many bits, or 0
unfoldable pub refusal : Frame → Bool → ℕ → ℕ → ℕ → ℕ
refusal f old bits size start = first (frame_rows f old ++ place_rows bits size start)
