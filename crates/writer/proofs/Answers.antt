-- Laws shaped like what the branches of `write` and `place` leave to show: what a call of the writer answers.
use Rattle.std.proofs.Common.{ℕ, ◌+◌, ◌-◌, ◌≤◌, ◌≡◌, refl, sym, ap, ◌∙◌, Bool, List, ◌++◌, append_assoc, append-nil, zero-add, arith, length, take, drop, length-drop, drop_of_length-le, take_all, take_at, drop-drop, eq-eqb, ne_eqb}
use Rattle.std.proofs.lemmas.List.Edits.{sets, sets-eq}
use Rattle.wire.specs.declared.frames.Frame.{Frame}
use Rattle.wire.specs.Numbers.{longest_extended}
use Rattle.writer.specs.declared.page.Page.{Page}
use Rattle.refusals.specs.Refusals.{frame_refusal, place_refusal, refusal}
use Rattle.refusals.specs.RefusalsLaws.{start_fits, bits_fit}
use Rattle.writer.specs.Writer.{wire_bits, outcome, refused, answer}
use Rattle.writer.specs.WriterLaws.{refusal-first}
use Rattle.writer.specs.Pages.{new_page, marks}
use Rattle.writer.specs.PagesLaws.{marks-at, marks_out}
use Rattle.writer.specs.LengthLaws.{sent-length}

-- a copy to the front
pub copied : (o b n : List ℕ) → length b ≤ length o → n ≡ b → n ++ drop (length b) o ≡ sets o 0 b
copied o b n h e = rw (e, sets-eq b o 0 (omega (arith, h)), zero-add) refl

-- a part from i to the end, when it is back
middle : (c v : List ℕ) (i : ℕ) → i ≤ length c → length v ≤ length c - i
    → take i c ++ (sets (take (length c - i) (drop i c)) 0 v ++ drop (length c - i) (drop i c)) ≡ take i c ++ v ++ drop (i + length v) c
middle c v i h l =
    let d : length (drop i c) ≡ length c - i = length-drop i c in
    rw (
      take_all (length c - i) (drop i c) (omega arith),
      drop_of_length-le (drop i c) {i = length c - i} (omega arith),
      sets-eq v (drop i c) 0 (omega arith),
      append-nil,
      zero-add,
      drop-drop,
      append_assoc (take i c) v (drop (i + length v) c),
    )

-- a new page has room for the longest image
room_for : length new_page.out ≡ longest_extended
unfolding new_page
room_for = refl

front : new_page.pen.at ≡ 0
unfolding new_page
front = refl

module _ (f : Frame) (old : Bool) (c : List ℕ) (start : ℕ) where
  pub answer_frame : (n : ℕ) → n ≡ frame_refusal f old → (n ≡ 0 → ⊥) → refused n c ≡ answer f old c start
  unfolding answer
  answer_frame n own h = rw (refusal-first f old c start, ← own, ne_eqb n 0 h, ne_eqb n 0 h)

  -- the image is drawn on a page that has room for it
  module _ (taken : frame_refusal f old ≡ 0) (p : Page) (all : p ≡ marks new_page (wire_bits f)) where
    fits_new : new_page.pen.at + length (wire_bits f) ≤ length new_page.out
    fits_new = omega (arith, front, room_for, sent-length f)

    pub measured : p.pen.at ≡ length (wire_bits f)
    measured = ap (λ (s : Page). s.pen.at) all ∙ marks-at new_page (wire_bits f) fits_new ∙ rw front (zero-add (length (wire_bits f)))

    pub fits_page : p.pen.at ≤ longest_extended
    fits_page = omega (arith, measured, sent-length f)

    built : p.out ≡ sets new_page.out 0 (wire_bits f)
    built = ap (λ (s : Page). s.out) all ∙ marks_out new_page (wire_bits f) fits_new ∙ ap (λ (n : ℕ). sets new_page.out n (wire_bits f)) front

    whole : take p.pen.at p.out ≡ wire_bits f
    whole =
        rw (measured, built, sets-eq (wire_bits f) new_page.out 0 (omega (arith, room_for, sent-length f)))
        (take_at (wire_bits f) (drop (0 + length (wire_bits f)) new_page.out) (length (wire_bits f)) refl)

    module _ (misplaced : ℕ) (told : misplaced ≡ place_refusal p.pen.at (length c) start) where
      refusal_is : refusal f old (length (wire_bits f)) (length c) start ≡ misplaced
      refusal_is = rw (refusal-first f old c start, taken, ← measured) (sym told)

      pub answer_misplaced : (misplaced ≡ 0 → ⊥) → refused misplaced c ≡ answer f old c start
      unfolding answer
      answer_misplaced h = rw (refusal_is, ne_eqb misplaced 0 h)

      pub answer-placed : (part : List ℕ) → misplaced ≡ 0
          → part ≡ sets (take (length c - start) (drop start c)) 0 (take p.pen.at p.out)
          → outcome (record { refusal = 0; bits = p.pen.at }) (take start c ++ (part ++ drop (length c - start) (drop start c))) ≡ answer f old c start
      unfolding answer
      answer-placed part n e =
          let inside = start_fits p.pen.at (length c) start misplaced told n in
          let room = bits_fit p.pen.at (length c) start misplaced told n in
          rw (refusal_is, eq-eqb misplaced 0 n)
          (rw (e, whole, middle c (wire_bits f) start inside (omega (arith, room, measured)), measured))
