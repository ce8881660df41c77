-- Each refusal is given exactly when document 01 says (01 "When the handset says no"; W-207): its condition holds and none before it does.
use Rattle.std.specs.Prelude.{ℕ, ◌≡◌, refl, ◌↔◌, Bool, true, List, [], ◌∷◌, ◌++◌, length}
use Rattle.wire.specs.declared.frames.Frame.{Frame}
use Rattle.refusals.specs.Refusals.{Row, row, too_large, barred, overlong, miscounted, outside, overflows, frame_rows, refusal}
use Rattle.refusals.specs.RefusalsLaws.{None, given_exactly, none_exactly}
use Rattle.writer.specs.Writer.{wire_bits, Written, outcome, answer}
use Rattle.writer.specs.WriterLaws.{rows, refusal-given}

-- n is the refusal that 01 gives: each number exactly when its condition holds and none before it does
pub record Exactly (f : Frame) (old : Bool) (c : List ℕ) (start n : ℕ) : Type 0 where
  pub zero : (n ≡ 0) ↔ None (rows f old c start)
  pub one : (n ≡ 1) ↔ (None [] × (too_large f.ident ≡ true))
  pub eight : (n ≡ 8) ↔ (None (row 1 (too_large f.ident) ∷ []) × (barred old f.ident ≡ true))
  pub two : (n ≡ 2) ↔ (None (row 1 (too_large f.ident) ∷ row 8 (barred old f.ident) ∷ []) × (overlong f.code ≡ true))
  pub three : (n ≡ 3)
      ↔ (None (row 1 (too_large f.ident) ∷ row 8 (barred old f.ident) ∷ row 2 (overlong f.code) ∷ [])
      × (miscounted f.remote f.code f.count ≡ true))
  pub four : (n ≡ 4) ↔ (None (frame_rows f old) × (outside (length c) start ≡ true))
  pub five : (n ≡ 5)
      ↔ (None (frame_rows f old ++ (row 4 (outside (length c) start) ∷ [])) × (overflows (length (wire_bits f)) (length c) start ≡ true))

pub refusal_exactly : (f : Frame) (old : Bool) (c : List ℕ) (start : ℕ)
    → Exactly f old c start (refusal f old (length (wire_bits f)) (length c) start)
unfolding refusal
refusal_exactly f old c start =
    let r1 : Row = row 1 (too_large f.ident) in
    let r8 : Row = row 8 (barred old f.ident) in
    let r2 : Row = row 2 (overlong f.code) in
    let r3 : Row = row 3 (miscounted f.remote f.code f.count) in
    let r4 : Row = row 4 (outside (length c) start) in
    let r5 : Row = row 5 (overflows (length (wire_bits f)) (length c) start) in
    record {
      zero = none_exactly (rows f old c start) refl;
      one = given_exactly [] r1 (r8 ∷ r2 ∷ r3 ∷ r4 ∷ r5 ∷ []) refl refl refl;
      eight = given_exactly (r1 ∷ []) r8 (r2 ∷ r3 ∷ r4 ∷ r5 ∷ []) refl refl refl;
      two = given_exactly (r1 ∷ r8 ∷ []) r2 (r3 ∷ r4 ∷ r5 ∷ []) refl refl refl;
      three = given_exactly (r1 ∷ r8 ∷ r2 ∷ []) r3 (r4 ∷ r5 ∷ []) refl refl refl;
      four = given_exactly (r1 ∷ r8 ∷ r2 ∷ r3 ∷ []) r4 (r5 ∷ []) refl refl refl;
      five = given_exactly (r1 ∷ r8 ∷ r2 ∷ r3 ∷ r4 ∷ []) r5 [] refl refl refl;
    }

-- and so of every call
pub call_exactly : (f : Frame) (old : Bool) (c c' : List ℕ) (start : ℕ) (r : Written)
    → outcome r c' ≡ answer f old c start → Exactly f old c start r.refusal
call_exactly f old c c' start r says = rw (refusal-given f old c c' start r says) (refusal_exactly f old c start)
