-- Seventeen recessive samples leave the table ready, wherever it is: how many are still to go at most falls with each of them.
use Rattle.std.proofs.Common.{ℕ, zero, suc, ◌+◌, ◌-◌, ◌<◌, ◌≤◌, ◌≡◌, refl, sym, ap, ◌∙◌, Bool, true, false, cond, ◌&&◌, List, [], ◌∷◌, ◌++◌, arith, eqb, leb, ltb, lit<, eqb-true, ltb-true, ltb-false, leb-false}
use Rattle.std.proofs.lemmas.Bool.{false≢true, eqb-false}
use Rattle.wire.specs.declared.runs.Run.{Run}
use Rattle.wire.specs.Numbers.{five, idle}
use Rattle.wire.specs.Stuffing.{none, ran, ran_from}
use Rattle.wire.proofs.StuffingLaws.{ran-append}
use Rattle.wire.specs.Layout.{Layout, done, part, newer, Got}
use Rattle.claims.specs.Table.{Where, waiting, ready, stuffed, crc_delimiter, ack_slot, ack_delimiter, end_of_frame, intermission, Row, recessives, sixth, reading, newer_begun, ended, onward, checks, row, where_from}
use Rattle.claims.specs.Numbers.{settling}
use Rattle.claims.specs.Lines.{recessive}
use Rattle.proving.specs.Cases.{either}
use Rattle.claims.proofs.AsTable.{recessives-snoc}

-- THE NUMBERS OF A PLACE ARE IN RANGE

abbrev pub Valid : Where → Type 0
Valid waiting = Unit {0}
Valid ready = Unit {0}
Valid (stuffed s) = Unit {0}
Valid (crc_delimiter g) = Unit {0}
Valid (ack_slot g) = Unit {0}
Valid (ack_delimiter g a) = Unit {0}
Valid (end_of_frame k g a) = (0 < k) × (k ≤ 7)
Valid (intermission k) = (0 < k) × (k ≤ 3)

valid_ended : (l : Layout Got) (s : List ℕ) → Valid (ended l s)
valid_ended (done g) s = either Valid (eqb (ran_from none s).len five) (λ _. tt) (λ _. tt)
valid_ended (part w k) s = tt
valid_ended newer s = tt

abbrev Goes : (Where → Type 0) → Row → Type 0
Goes P r = P r.goes

pub valid_row : (h : List ℕ) (p : Where) (b : ℕ) → Valid p → Valid (row h p b).goes
valid_row h waiting b v = either Valid (leb idle (recessives (h ++ (b ∷ [])))) (λ _. tt) (λ _. tt)
valid_row h ready b v = either Valid (eqb b 0) (λ _. tt) (λ _. tt)
valid_row h (stuffed s) b v =
    either (Goes Valid) (sixth s b) (λ _. tt)
    (λ _. either (Goes Valid) (newer_begun (s ++ (b ∷ []))) (λ _. tt) (λ _. valid_ended (reading (s ++ (b ∷ []))) (s ++ (b ∷ []))))
valid_row h (crc_delimiter g) b v = either (Goes Valid) (eqb b 0) (λ _. tt) (λ _. tt)
valid_row h (ack_slot g) b v = tt
valid_row h (ack_delimiter g a) b v =
    either (Goes Valid) (eqb b 0) (λ _. tt) (λ _. either (Goes Valid) (checks g) (λ _. (lit< tt, omega arith)) (λ _. tt))
valid_row h (end_of_frame k g a) b v =
    either (Goes Valid) (eqb b 0)
    (λ _. either (Goes Valid) (ltb k 7) (λ _. tt) (λ _. tt))
    (λ _. either (Goes Valid) (ltb k 6) (λ e. (omega arith, omega (arith, ltb-true k 6 e)))
    (λ _. either (Goes Valid) (eqb k 6) (λ _. (lit< tt, omega arith)) (λ _. (lit< tt, omega arith))))
valid_row h (intermission k) b v =
    either (Goes Valid) (eqb b 0)
    (λ _. either (Goes Valid) (ltb k 3) (λ _. tt) (λ _. tt))
    (λ _. either (Goes Valid) (ltb k 3) (λ e. (omega arith, omega (arith, ltb-true k 3 e))) (λ _. tt))

-- A RUN OF RECESSIVE SAMPLES

-- how many recessive samples a run has
abbrev ones : Run → ℕ
ones u = cond (eqb 1 u.last) u.len 0

len_most : (u : Run) (s : List ℕ) → u.len ≤ five → (ran_from u s).len ≤ five
len_most u [] h = h
len_most u (b ∷ s) h = len_most (ran u b) s (either (λ (n : ℕ). n ≤ five) (eqb b u.last) (λ _. either (λ (n : ℕ). n ≤ five) (ltb u.len five) (λ e. omega (arith, ltb-true u.len five e)) (λ _. omega arith)) (λ _. omega arith))

ones_most : (u : Run) → u.len ≤ five → ones u ≤ five
ones_most u h = either (λ (n : ℕ). n ≤ five) (eqb 1 u.last) (λ _. h) (λ _. omega arith)

-- one more, where it is not the sixth
ones_more : (u : Run) → u.len ≤ five → (eqb u.len five && eqb 1 u.last) ≡ false → (ran u 1).len ≡ ones u + 1
ones_more u h z = go (eqb 1 u.last) refl (ltb u.len five) refl
  where
    go : (t : Bool) → eqb 1 u.last ≡ t → (s : Bool) → ltb u.len five ≡ s → cond t (cond s (u.len + 1) five) 1 ≡ cond t u.len 0 + 1
    go true e true q = refl
    go true e false q = absurd (no (eqb u.len five) refl)
      where
        no : (r : Bool) → eqb u.len five ≡ r → ⊥
        no true w = let f : true ≡ false = sym (rw (w, e)) ∙ z in false≢true (sym f)
        no false w = eqb-false u.len five w (omega (arith, ltb-false u.len five q))
    go false e s q = refl

-- HOW MANY RECESSIVE SAMPLES ARE STILL TO GO, AT MOST, behind n of them: 4 at the end of the CRC, 3 for delimiters and slot, 7 and 3
abbrev to_go : ℕ → Where → ℕ
to_go n waiting = 1 + (10 - n)
to_go n ready = 0
to_go n (stuffed s) = 17 - ones (ran_from none s)
to_go n (crc_delimiter g) = 13
to_go n (ack_slot g) = 12
to_go n (ack_delimiter g a) = 11
to_go n (end_of_frame k g a) = 11 - k
to_go n (intermission k) = 4 - k

module _ (h : List ℕ) where
  counted : recessives (h ++ (1 ∷ [])) ≡ recessives h + 1
  counted = recessives-snoc 0 h 1

  abbrev Fewer : ℕ → Where → Type 0
  Fewer m p = to_go (recessives (h ++ (1 ∷ []))) p ≤ m

  falls_onward : (s : List ℕ) → sixth s 1 ≡ false → Fewer (16 - ones (ran_from none s)) (onward (s ++ (1 ∷ [])))
  falls_onward s z = go (reading (s ++ (1 ∷ [])))
    where
      u : Run
      u = ran_from none s

      less : (ran_from none s).len ≤ five
      less = len_most none s (omega arith)

      more : (ran_from none (s ++ (1 ∷ []))).len ≡ ones (ran_from none s) + 1
      more = ap (λ (v : Run). v.len) (ran-append none s (1 ∷ [])) ∙ ones_more (ran_from none s) less z

      count : ones (ran_from none (s ++ (1 ∷ []))) ≡ ones (ran_from none s) + 1
      count = ap ones (ran-append none s (1 ∷ [])) ∙ ones_more (ran_from none s) less z

      soon : Fewer (16 - ones (ran_from none s)) waiting
      soon = omega (arith, ones_most (ran_from none s) less)

      stays : 17 - ones (ran_from none (s ++ (1 ∷ []))) ≤ 16 - ones (ran_from none s)
      stays = omega (arith, count)

      go : (l : Layout Got) → Fewer (16 - ones (ran_from none s)) (ended l (s ++ (1 ∷ [])))
      go (done g) =
          either (Fewer (16 - ones (ran_from none s))) (eqb (ran_from none (s ++ (1 ∷ []))).len five) (λ _. stays)
          (λ e.
          let most : (ran_from none (s ++ (1 ∷ []))).len ≤ five = len_most none (s ++ (1 ∷ [])) (omega arith) in
          let four : ones (ran_from none s) ≤ 3 = omega (arith, more, eqb-false (ran_from none (s ++ (1 ∷ []))).len five e) in
          omega arith)
      go (part w k) = stays
      go newer = soon

  falls : (p : Where) → Valid p → Fewer (to_go (recessives h) p - 1) (row h p 1).goes
  falls waiting v = either (Fewer (to_go (recessives h) waiting - 1)) (leb idle (recessives (h ++ (1 ∷ [])))) (λ _. omega arith) (λ e. omega (arith, counted, leb-false idle (recessives (h ++ (1 ∷ []))) e))
  falls ready v = omega arith
  falls (stuffed s) v =
      let most : ones (ran_from none s) ≤ five = ones_most (ran_from none s) (len_most none s (omega arith)) in
      let e : 17 - ones (ran_from none s) - 1 ≡ 16 - ones (ran_from none s) = omega arith in
      rw e
      (either (λ (r : Row). Fewer (16 - ones (ran_from none s)) r.goes) (sixth s 1) (λ _. omega arith)
      (λ z. either (λ (r : Row). Fewer (16 - ones (ran_from none s)) r.goes) (newer_begun (s ++ (1 ∷ []))) (λ _. omega arith) (λ _. falls_onward s z)))
  falls (crc_delimiter g) v = omega arith
  falls (ack_slot g) v = omega arith
  falls (ack_delimiter g a) v = either (λ (r : Row). Fewer 10 r.goes) (checks g) (λ _. omega arith) (λ _. omega (arith, counted))
  falls (end_of_frame k g a) v =
      either (λ (r : Row). Fewer (11 - k - 1) r.goes) (ltb k 6) (λ _. omega arith)
      (λ e. either (λ (r : Row). Fewer (11 - k - 1) r.goes) (eqb k 6) (λ q. omega (arith, eqb-true k 6 q)) (λ q. omega (arith, v.1)))
  falls (intermission k) v = either (λ (r : Row). Fewer (4 - k - 1) r.goes) (ltb k 3) (λ _. omega arith) (λ _. omega arith)

-- SEVENTEEN

to_go_most : (n : ℕ) (p : Where) → to_go n p ≤ settling
to_go_most n waiting = omega arith
to_go_most n ready = omega arith
to_go_most n (stuffed s) = omega arith
to_go_most n (crc_delimiter g) = omega arith
to_go_most n (ack_slot g) = omega arith
to_go_most n (ack_delimiter g a) = omega arith
to_go_most n (end_of_frame k g a) = omega arith
to_go_most n (intermission k) = omega arith

none-to_go : (n : ℕ) (p : Where) → Valid p → to_go n p ≤ 0 → p ≡ ready
none-to_go n waiting v e = absurd (omega arith)
none-to_go n ready v e = refl
none-to_go n (stuffed s) v e = absurd (omega (arith, ones_most (ran_from none s) (len_most none s (omega arith))))
none-to_go n (crc_delimiter g) v e = absurd (omega arith)
none-to_go n (ack_slot g) v e = absurd (omega arith)
none-to_go n (ack_delimiter g a) v e = absurd (omega arith)
none-to_go n (end_of_frame k g a) v e = absurd (omega (arith, v.1))
none-to_go n (intermission k) v e = absurd (omega (arith, v.1))

settles : (m : ℕ) (h : List ℕ) (p : Where) → Valid p → to_go (recessives h) p ≤ m → where_from h p (recessive m) ≡ ready
settles zero h p v e = none-to_go (recessives h) p v e
settles (suc m) h p v e = settles m (h ++ (1 ∷ [])) (row h p 1).goes (valid_row h p 1 v) (omega (arith, falls h p v))

pub seventeen : (h : List ℕ) (p : Where) → Valid p → where_from h p (recessive settling) ≡ ready
seventeen h p v = settles settling h p v (to_go_most (recessives h) p)
