-- The caution: a frame that the table hands out came from an image, sampled bit after bit right behind ten recessive samples. Only the
-- sixth end-of-frame bit hands one out, and what its place says of the samples so far is that image.
use Rattle.std.proofs.Common.{ℕ, ◌-◌, ◌<◌, ◌≤◌, ◌≡◌, refl, sym, ap, ap₂, subst, ◌∙◌, Bool, true, false, List, [], ◌∷◌, ◌++◌, append_assoc, arith, eqb, ltb, length, take, replicate, length-append, take_at, eqb-true}
use Rattle.std.proofs.lemmas.Bool.{false≢true, eqb-false}
use Rattle.std.proofs.Math.Seq.{take-append_seam}
use Rattle.wire.specs.declared.frames.Received.{Received}
use Rattle.wire.specs.Numbers.{room}
use Rattle.wire.proofs.BitsLaws.{AllBits}
use Rattle.wire.specs.Stuffing.{stuff_from}
use Rattle.wire.specs.Crc.{crc}
use Rattle.wire.specs.Fields.{raw, header, carried, data_fields}
use Rattle.wire.specs.Image.{start_of_frame, slot, image}
use Rattle.wire.proofs.FieldsLaws.{carried-le}
use Rattle.wire.proofs.ImageLaws.{got_of, begun, image_parts}
use Rattle.wire.specs.Legal.{Legal}
use Rattle.wire.specs.Layout.{Got}
use Rattle.wire.proofs.FramesLaws.{got_fields, GotIn}
use Rattle.claims.specs.Answers.{Said, nothing, handed, stuff_error, form_error, crc_error, overload, newer_format, refused}
use Rattle.claims.specs.Table.{Where, waiting, ready, stuffed, crc_delimiter, ack_slot, ack_delimiter, end_of_frame, intermission, Row, sixth, newer_begun, checks, received_from, row}
use Rattle.claims.specs.Numbers.{quiet}
use Rattle.claims.specs.Lines.{recessive, all_but_last, CameFrom}
use Rattle.proving.specs.Cases.{either}
use Rattle.claims.proofs.Frames.{padded_stored}
use Rattle.claims.proofs.Marks.{Since, front, Marks, end_more}

-- WHO HANDS OUT

-- it is the sixth bit of end of frame, recessive
record Hands (p : Where) (b : ℕ) (r : Received) : Type 0 where
  pub got : Got
  pub slot : ℕ
  pub place : p ≡ end_of_frame 6 got slot
  pub bit : eqb b 0 ≡ false
  pub frame : received_from got slot ≡ r

abbrev is_handed : Said → Bool
is_handed nothing = false
is_handed (handed r) = true
is_handed stuff_error = false
is_handed form_error = false
is_handed crc_error = false
is_handed overload = false
is_handed newer_format = false
is_handed (refused n) = false

same_handed : (r s : Received) → handed r ≡ handed s → r ≡ s
same_handed r s e = cc

module _ (h : List ℕ) (b : ℕ) (r : Received) where
  abbrev Tells : Where → Row → Type 0
  Tells p x = x.says ≡ handed r → Hands p b r

  no : {p : Where} (s : Said) → is_handed s ≡ false → s ≡ handed r → Hands p b r
  no s f e = absurd (false≢true (sym f ∙ ap is_handed e))

  hands : (p : Where) → Tells p (row h p b)
  hands waiting = no nothing refl
  hands ready = no nothing refl
  hands (stuffed s) =
      either (Tells (stuffed s)) (sixth s b) (λ _. no stuff_error refl)
      (λ _. either (Tells (stuffed s)) (newer_begun (s ++ (b ∷ []))) (λ _. no newer_format refl) (λ _. no nothing refl))
  hands (crc_delimiter g) = either (Tells (crc_delimiter g)) (eqb b 0) (λ _. no form_error refl) (λ _. no nothing refl)
  hands (ack_slot g) = no nothing refl
  hands (ack_delimiter g x) =
      either (Tells (ack_delimiter g x)) (eqb b 0) (λ _. no form_error refl) (λ _. either (Tells (ack_delimiter g x)) (checks g) (λ _. no nothing refl) (λ _. no crc_error refl))
  hands (end_of_frame k g x) =
      either (Tells (end_of_frame k g x)) (eqb b 0)
      (λ _. either (Tells (end_of_frame k g x)) (ltb k 7) (λ _. no form_error refl) (λ _. no overload refl))
      (λ q. either (Tells (end_of_frame k g x)) (ltb k 6) (λ _. no nothing refl)
      (λ _. either (Tells (end_of_frame k g x)) (eqb k 6)
      (λ s e. record { got = g; slot = x; place = ap (λ (n : ℕ). end_of_frame n g x) (eqb-true k 6 s); bit = q; frame = same_handed (received_from g x) r e })
      (λ _. no nothing refl)))
  hands (intermission k) =
      either (Tells (intermission k)) (eqb b 0)
      (λ _. either (Tells (intermission k)) (ltb k 3) (λ _. no overload refl) (λ _. no nothing refl))
      (λ _. either (Tells (intermission k)) (ltb k 3) (λ _. no nothing refl) (λ _. no nothing refl))

-- THE FRAME HANDED OUT AND ITS IMAGE

module _ (g : Got) (x : ℕ) (l : GotIn g) (few : x < 2) (right : checks g ≡ true) where
  size : length g.bytes ≤ room
  size = omega (arith, l.size, carried-le g.remote g.code)

  -- the bytes in use are those read
  used : take (carried g.remote g.code) (g.bytes ++ replicate (room - length g.bytes) 0) ≡ g.bytes
  used = ap (λ (n : ℕ). take n (g.bytes ++ replicate (room - length g.bytes) 0)) (sym l.size) ∙ take-append_seam g.bytes (replicate (room - length g.bytes) 0)

  got_back : got_of (received_from g x) ≡ g
  got_back =
      let c : crc (raw (start_of_frame ∷ (header g.ident g.remote g.code g.noted ++ data_fields g.bytes))) ≡ g.crc =
      eqb-true (crc (raw (start_of_frame ∷ (header g.ident g.remote g.code g.noted ++ data_fields g.bytes)))) g.crc right in
      rw (used, c)

  slot_back : slot (eqb x 0) ≡ x
  slot_back = either_slot (eqb x 0) refl
    where
      either_slot : (t : Bool) → eqb x 0 ≡ t → slot t ≡ x
      either_slot true e = sym (eqb-true x 0 e)
      either_slot false e = omega (arith, eqb-false x 0 e)

  image_is : image (received_from g x) ≡ (front g ++ (x ∷ recessive 7)) ++ (1 ∷ [])
  image_is =
      image_parts (received_from g x)
      ∙ ap₂ (λ (k : Got) (t : ℕ). 0 ∷ (stuff_from begun (raw (got_fields k) ++ (1 ∷ [])) ++ (t ∷ 1 ∷ recessive 7))) got_back slot_back
      ∙ sym (append_assoc (front g) (x ∷ recessive 7) (1 ∷ []))

  but_last : all_but_last (image (received_from g x)) ≡ front g ++ (x ∷ recessive 7)
  but_last =
      let s : List ℕ = front g ++ (x ∷ recessive 7) in
      ap all_but_last image_is ∙ take_at s (1 ∷ []) (length (s ++ (1 ∷ [])) - 1) (omega (arith, length-append s (1 ∷ [])))

  legal : Legal (received_from g x)
  legal =
      record { ident = l.ident; noted = l.noted; code = l.code; count = l.size; bytes = padded_stored g.bytes l.bytes size }

-- THE CAUTION
pub caution : (h : List ℕ) (p : Where) (b : ℕ) (r : Received) → b < 2 → AllBits h → Marks h p → (row h p b).says ≡ handed r
    → CameFrom (h ++ (b ∷ [])) r
caution h p b r bit a m e =
    let c = hands h b r p e in
    let g : Got = c.got in
    let x : ℕ = c.slot in
    let k : Marks h (end_of_frame 6 g x) = subst (Marks h) c.place m in
    let one_more : Since (h ++ (b ∷ [])) (front g ++ (x ∷ recessive 7)) = end_more h b bit a 6 g x c.bit k.0 in
    subst (CameFrom (h ++ (b ∷ []))) c.frame
    (record {
      legal = legal g x k.1 k.2 k.3;
      early = one_more.0;
      whole = one_more.1 ∙ ap (λ (l : List ℕ). one_more.0 ++ (recessive quiet ++ l)) (sym (but_last g x k.1 k.2 k.3));
    })
