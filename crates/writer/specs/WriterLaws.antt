-- What follows from the writer's contract alone: which bytes changed and to what, and that a refused call changed none.
use Rattle.std.specs.Prelude.{ℕ, ◌+◌, ◌-◌, ◌≤◌, ◌<◌, ◌≡◌, Bool, true, false, cond, List, ◌++◌, eqb, length, take, drop, get_or}
use Rattle.std.proofs.Math.Path.{refl}
use Rattle.std.proofs.Common.{sym, ap, ◌∙◌, append_assoc, arith, length-append, length-drop, get_or-append-add, get_or-take, get_or-drop, length-take-le, eq-eqb, ne_eqb, eqb-true}
use Rattle.std.proofs.Math.ListN.{get_or-append}
use Rattle.std.proofs.lemmas.Bool.{eqb-false}
use Rattle.wire.specs.declared.frames.Frame.{Frame}
use Rattle.refusals.specs.Refusals.{Row, barred, frame_rows, place_rows, frame_refusal, place_refusal, refusal}
use Rattle.refusals.specs.RefusalsLaws.{barred_unmarked, taken_unmarked, first-append, start_fits, bits_fit}
use Rattle.writer.specs.Writer.{wire_bits, Written, Outcome, outcome, refused, placed, answer}

module _ (f : Frame) (old : Bool) (c : List ℕ) (start : ℕ) where
  -- every row that is tried
  abbrev pub rows : List Row
  rows = frame_rows f old ++ place_rows (length (wire_bits f)) (length c) start

  abbrev no : ℕ
  no = refusal f old (length (wire_bits f)) (length c) start

  -- by the frame's own refusal first
  pub refusal-first : no ≡ cond (eqb (frame_refusal f old) 0) (place_refusal (length (wire_bits f)) (length c) start) (frame_refusal f old)
  unfolding refusal frame_refusal
  refusal-first = first-append (frame_rows f old) (place_rows (length (wire_bits f)) (length c) start) refl

  answer-refused : (no ≡ 0 → ⊥) → answer f old c start ≡ refused no c
  unfolding answer
  answer-refused h = rw (ne_eqb no 0 h)

  answer-placed : no ≡ 0 → answer f old c start ≡ placed (wire_bits f) c start
  unfolding answer
  answer-placed z = rw (eq-eqb no 0 z)

  -- the "old controllers" mark changes nothing where the identifier is not barred
  pub not_barred_alike : barred old f.ident ≡ false → answer f old c start ≡ answer f false c start
  unfolding answer refusal
  not_barred_alike e = rw (e, barred_unmarked f.ident)

  -- not refused: neither by the frame itself nor by the place
  free : no ≡ 0 → (frame_refusal f old ≡ 0) × (place_refusal (length (wire_bits f)) (length c) start ≡ 0)
  free z = go (eqb (frame_refusal f old) 0) refl (sym refusal-first ∙ z)
    where
      go : (t : Bool) → eqb (frame_refusal f old) 0 ≡ t → cond t (place_refusal (length (wire_bits f)) (length c) start) (frame_refusal f old) ≡ 0
          → (frame_refusal f old ≡ 0) × (place_refusal (length (wire_bits f)) (length c) start ≡ 0)
      go true e q = (eqb-true (frame_refusal f old) 0 e, q)
      go false e q = absurd (eqb-false (frame_refusal f old) 0 e q)

-- an image placed: what stands where
module _ (v c : List ℕ) (start : ℕ) (h : start ≤ length c) where
  abbrev after : List ℕ
  after = take start c ++ v ++ drop (start + length v) c

  front : length (take start c) ≡ start
  front = length-take-le start c h

  placed_before : (i : ℕ) → i < start → get_or after i 0 ≡ get_or c i 0
  placed_before i l =
      rw (append_assoc, get_or-append (take start c) (v ++ drop (start + length v) c) 0 i (omega (arith, front)), get_or-take)

  placed-inside : (i : ℕ) → i < length v → get_or after (start + i) 0 ≡ get_or v i 0
  placed-inside i l =
      rw append_assoc
      (ap (λ (n : ℕ). get_or (take start c ++ (v ++ drop (start + length v) c)) (n + i) 0) (sym front)
      ∙ get_or-append-add (take start c) (v ++ drop (start + length v) c) i 0
      ∙ get_or-append v (drop (start + length v) c) 0 i l)

  placed_behind : (i : ℕ) → start + length v ≤ i → get_or after i 0 ≡ get_or c i 0
  placed_behind i l =
      let k : ℕ = i - (start + length v) in
      let e : start + length v + k ≡ i = omega arith in
      let n : length (take start c ++ v) ≡ start + length v = length-append (take start c) v ∙ ap (λ (m : ℕ). m + length v) front in
      ap (λ (m : ℕ). get_or after m 0) (sym e ∙ ap (λ (m : ℕ). m + k) (sym n))
      ∙ get_or-append-add (take start c ++ v) (drop (start + length v) c) k 0
      ∙ get_or-drop (start + length v) c k 0
      ∙ ap (λ (m : ℕ). get_or c m 0) e

  placed-length : length v ≤ length c - start → length after ≡ length c
  placed-length l =
      rw (length-append, length-append, length-drop) (omega (arith, front))

-- FROM THE CONTRACT

module _ (f : Frame) (old : Bool) (c c' : List ℕ) (start : ℕ) (r : Written) (says : outcome r c' ≡ answer f old c start) where
  -- the call gives the refusal that the rows give
  pub refusal-given : r.refusal ≡ refusal f old (length (wire_bits f)) (length c) start
  refusal-given = go (eqb k 0) refl
    where
      k : ℕ
      k = refusal f old (length (wire_bits f)) (length c) start

      go : (t : Bool) → eqb k 0 ≡ t → r.refusal ≡ k
      go true e = ap (λ (o : Outcome). o.written.refusal) (says ∙ answer-placed f old c start (eqb-true k 0 e)) ∙ sym (eqb-true k 0 e)
      go false e = ap (λ (o : Outcome). o.written.refusal) (says ∙ answer-refused f old c start (eqb-false k 0 e))

  -- refused: 0 bits, and no byte changes
  module _ (h : r.refusal ≡ 0 → ⊥) where
    outcome-refused : outcome r c' ≡ refused (refusal f old (length (wire_bits f)) (length c) start) c
    outcome-refused = says ∙ answer-refused f old c start (λ z. h (refusal-given ∙ z))

    pub refused-bits : r.bits ≡ 0
    refused-bits = ap (λ (o : Outcome). o.written.bits) outcome-refused

    pub refused_capture : c' ≡ c
    refused_capture = ap (λ (o : Outcome). o.capture) outcome-refused

  -- not refused: exactly the image's bytes changed, to the image's bits
  module _ (z : r.refusal ≡ 0) where
    none : refusal f old (length (wire_bits f)) (length c) start ≡ 0
    none = sym refusal-given ∙ z

    pub frame_taken : frame_refusal f false ≡ 0
    frame_taken = taken_unmarked f old (free f old c start none).0

    pub inside : start ≤ length c
    inside = start_fits (length (wire_bits f)) (length c) start _ refl (free f old c start none).1

    outcome-placed : outcome r c' ≡ placed (wire_bits f) c start
    outcome-placed = says ∙ answer-placed f old c start none

    pub capture_placed : c' ≡ take start c ++ wire_bits f ++ drop (start + length (wire_bits f)) c
    capture_placed = ap (λ (o : Outcome). o.capture) outcome-placed

    pub written_bits : r.bits ≡ length (wire_bits f)
    written_bits = ap (λ (o : Outcome). o.written.bits) outcome-placed

    pub written_inside : (i : ℕ) → i < length (wire_bits f) → get_or c' (start + i) 0 ≡ get_or (wire_bits f) i 0
    written_inside i l = ap (λ (d : List ℕ). get_or d (start + i) 0) capture_placed ∙ placed-inside (wire_bits f) c start inside i l

    pub written_before : (i : ℕ) → i < start → get_or c' i 0 ≡ get_or c i 0
    written_before i l = ap (λ (d : List ℕ). get_or d i 0) capture_placed ∙ placed_before (wire_bits f) c start inside i l

    pub written_behind : (i : ℕ) → start + length (wire_bits f) ≤ i → get_or c' i 0 ≡ get_or c i 0
    written_behind i l = ap (λ (d : List ℕ). get_or d i 0) capture_placed ∙ placed_behind (wire_bits f) c start inside i l

    pub written-length : length c' ≡ length c
    written-length = ap length capture_placed ∙ placed-length (wire_bits f) c start inside (bits_fit (length (wire_bits f)) (length c) start _ refl (free f old c start none).1)
