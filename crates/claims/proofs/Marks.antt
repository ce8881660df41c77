-- What each place of the table says of the samples so far: where ten recessive samples ended, and what was sampled since. It is kept by
-- every sample.
use Rattle.std.proofs.Common.{ℕ, ◌+◌, ◌-◌, ◌<◌, ◌≤◌, ◌≡◌, refl, sym, ap, ap₂, subst, ◌∙◌, Bool, true, false, cond, List, [], ◌∷◌, ◌++◌, append-nil, append_assoc, arith, eqb, leb, ltb, lit<, drop, eqb-true, ltb-false, leb-true}
use Rattle.std.proofs.Math.ListN.{replicate-append-replicate}
use Rattle.std.proofs.lemmas.Bool.{eqb-false}
use Rattle.wire.specs.Numbers.{five, idle}
use Rattle.wire.proofs.BitsLaws.{AllBits, all_bits-append}
use Rattle.wire.specs.Stuffing.{none, ran_from, stuff_from}
use Rattle.wire.proofs.StuffingLaws.{unstuff-append, unbroken-append, stuff_unstuff_bit}
use Rattle.wire.specs.Unstuffing.{unstuff_from, Unbroken}
use Rattle.wire.specs.Fields.{raw}
use Rattle.wire.proofs.ImageLaws.{begun}
use Rattle.wire.specs.Layout.{Layout, done, part, newer, Walker, enter, Got, frames}
use Rattle.wire.proofs.LayoutLaws.{Open, Stood, stood_new, stood_open, takes-append}
use Rattle.wire.proofs.FramesLaws.{got_fields, GotIn, sized_frames}
use Rattle.claims.specs.Table.{Where, waiting, ready, stuffed, crc_delimiter, ack_slot, ack_delimiter, end_of_frame, intermission, Row, recessives_from, recessives, sixth, reading, newer_begun, ended, onward, checks, row}
use Rattle.claims.specs.Numbers.{quiet}
use Rattle.claims.specs.Lines.{recessive}
use Rattle.proving.specs.Cases.{either}
use Rattle.claims.proofs.Stuffing.{walker, open_onward, whole-bits}
use Rattle.claims.proofs.AsTable.{recessives-snoc}

-- RECESSIVE SAMPLES AT THE END

abbrev Trail : List ℕ → ℕ → Type 0
Trail h n = (early : List ℕ) × (h ≡ early ++ recessive n)

ones-snoc : (n : ℕ) → recessive n ++ (1 ∷ []) ≡ recessive (n + 1)
ones-snoc n = replicate-append-replicate n 1 1

trail_from : (pre : List ℕ) (n : ℕ) (h : List ℕ) → AllBits h → Trail pre n → Trail (pre ++ h) (recessives_from n h)
trail_from pre n [] a t = (t.0, append-nil pre ∙ t.1)
trail_from pre n (b ∷ h) a t =
    subst (λ (l : List ℕ). Trail l (recessives_from n (b ∷ h))) (append_assoc pre (b ∷ []) h)
    (trail_from (pre ++ (b ∷ [])) (cond (eqb b 0) 0 (n + 1)) h a.1 (either (Trail (pre ++ (b ∷ []))) (eqb b 0)
    (λ _. (pre ++ (b ∷ []), sym (append-nil (pre ++ (b ∷ [])))))
    (λ e.
    let one : b ≡ 1 = omega (arith, eqb-false b 0 e, a.0) in
    (t.0, ap₂ (λ (l : List ℕ) (x : ℕ). l ++ (x ∷ [])) t.1 one ∙ append_assoc t.0 (recessive n) (1 ∷ []) ∙ ap (λ (l : List ℕ). t.0 ++ l) (ones-snoc n)))))

trail : (h : List ℕ) (n : ℕ) → AllBits h → n ≤ recessives h → Trail h n
trail h n a k =
    let t = trail_from [] 0 h a ([], refl) in
    let m : recessives h - n + n ≡ recessives h = omega arith in (
      t.0 ++ recessive (recessives h - n),
      t.1
          ∙ ap (λ (x : ℕ). t.0 ++ recessive x) (sym m)
          ∙ ap (λ (l : List ℕ). t.0 ++ l) (sym (replicate-append-replicate (recessives h - n) n 1))
          ∙ sym (append_assoc t.0 (recessive (recessives h - n)) (recessive n)),
    )

-- WHAT EACH PLACE SAYS OF THE SAMPLES SO FAR

-- ten recessive samples, and then these
abbrev pub Since : List ℕ → List ℕ → Type 0
Since h s = (early : List ℕ) × (h ≡ early ++ (recessive quiet ++ s))

since-snoc : (h s : List ℕ) (b : ℕ) → Since h s → Since (h ++ (b ∷ [])) (s ++ (b ∷ []))
since-snoc h s b e = (
  e.0,
  ap (λ (l : List ℕ). l ++ (b ∷ [])) e.1
      ∙ append_assoc e.0 (recessive quiet ++ s) (b ∷ [])
      ∙ ap (λ (l : List ℕ). e.0 ++ l) (append_assoc (recessive quiet) s (b ∷ [])),
)

since_start : (h : List ℕ) → AllBits h → quiet ≤ recessives h → Since (h ++ (0 ∷ [])) (0 ∷ [])
since_start h a k =
    let t = trail h quiet a k in
    (t.0, ap (λ (l : List ℕ). l ++ (0 ∷ [])) t.1 ∙ append_assoc t.0 (recessive quiet) (0 ∷ []))

-- a bit more is taken where a field is to be read
stood_more : (xs : List ℕ) (b : ℕ) → b < 2 → Stood frames (walker xs) xs → Open (walker xs).rest
    → Stood frames (walker (xs ++ (b ∷ []))) (xs ++ (b ∷ []))
stood_more xs b h s o =
    subst (λ (w : Walker Got). Stood frames w (xs ++ (b ∷ []))) (sym (takes-append (enter frames) xs (b ∷ []))) (stood_open frames (walker xs) b xs o s h)

-- samples in the stuffed part: bits, none the sixth equal one, the first a start of frame
pub record Coded (s : List ℕ) : Type 0 where
  pub bits : AllBits s
  pub unbroken : Unbroken none s
  pub taken : List ℕ
  pub starts : unstuff_from none s ≡ 0 ∷ taken
  pub stood : Stood frames (walker taken) taken

-- the samples of these fields, from start of frame to the CRC delimiter
abbrev pub front : Got → List ℕ
front g = 0 ∷ stuff_from begun (raw (got_fields g) ++ (1 ∷ []))

abbrev pub Marks : List ℕ → Where → Type 0
Marks h waiting = Unit {0}
Marks h ready = quiet ≤ recessives h
Marks h (stuffed s) = Since h s × Coded s × (onward s ≡ stuffed s)
Marks h (crc_delimiter g) = (s : List ℕ) × Since h s × (s ++ (1 ∷ []) ≡ front g) × GotIn g
Marks h (ack_slot g) = Since h (front g) × GotIn g
Marks h (ack_delimiter g a) = Since h (front g ++ (a ∷ [])) × GotIn g × (a < 2)
Marks h (end_of_frame k g a) = Since h (front g ++ (a ∷ recessive k)) × GotIn g × (a < 2) × (checks g ≡ true) × (k ≤ recessives h)
Marks h (intermission k) = 7 + k ≤ recessives h

-- ONE SAMPLE OF THE STUFFED PART

front_is : (s : List ℕ) (c : Coded s) (g : Got) → eqb (ran_from none s).len five ≡ false → c.taken ≡ raw (got_fields g)
    → s ++ (1 ∷ []) ≡ front g
front_is s c g e q =
    let more : unstuff_from none (s ++ (1 ∷ [])) ≡ 0 ∷ (raw (got_fields g) ++ (1 ∷ [])) =
    unstuff-append none s (1 ∷ []) ∙ rw e (ap (λ (l : List ℕ). l ++ (1 ∷ [])) (c.starts ∙ ap (λ (l : List ℕ). 0 ∷ l) q)) in
    sym (stuff_unstuff_bit none s 1 (λ (z : ◌≡◌ {A = ℕ} 0 five). absurd (omega arith)) c.bits c.unbroken e) ∙ ap (stuff_from none) more

-- where the stuffed part leads
marks-onward : (h s : List ℕ) → Since h s → Coded s → Marks h (onward s)
marks-onward h s w c = go (reading s) refl
  where
    read : reading s ≡ (walker c.taken).rest
    read = ap (λ (l : List ℕ). (walker (drop 1 l)).rest) c.starts

    go : (l : Layout Got) → reading s ≡ l → Marks h (ended l s)
    go (done g) q =
        let b = whole-bits c.taken g c.stood (sym read ∙ q) in
        either (Marks h) (eqb (ran_from none s).len five) (λ e. (w, c, rw (q, e))) (λ e. (s, w, front_is s c g e b.0, b.1))
    go (part n k) q = (w, c, rw q)
    go newer q = tt

-- a sample that is no sixth equal bit
coded_more : (s : List ℕ) (b : ℕ) → b < 2 → Coded s → onward s ≡ stuffed s → sixth s b ≡ false → Coded (s ++ (b ∷ []))
coded_more s b h c stay z = go (eqb (ran_from none s).len five) refl
  where
    more_bits : AllBits (s ++ (b ∷ []))
    more_bits = all_bits-append s (b ∷ []) c.bits (h, tt)

    more_unbroken : Unbroken none (s ++ (b ∷ []))
    more_unbroken = unbroken-append none s (b ∷ []) c.unbroken (z, tt)

    go : (t : Bool) → eqb (ran_from none s).len five ≡ t → Coded (s ++ (b ∷ []))
    go true e =
        record {
          bits = more_bits;
          unbroken = more_unbroken;
          taken = c.taken;
          starts = unstuff-append none s (b ∷ []) ∙ rw e (append-nil (unstuff_from none s) ∙ c.starts);
          stood = c.stood;
        }
    go false e =
        record {
          bits = more_bits;
          unbroken = more_unbroken;
          taken = c.taken ++ (b ∷ []);
          starts = unstuff-append none s (b ∷ []) ∙ rw e (ap (λ (l : List ℕ). l ++ (b ∷ [])) c.starts);
          stood = stood_more c.taken b h c.stood (subst (λ (l : List ℕ). Open (walker (drop 1 l)).rest) c.starts (open_onward s e stay));
        }

-- ONE SAMPLE, place by place

coded_start : Coded (0 ∷ [])
coded_start = record { bits = (lit< tt, tt); unbroken = (refl, tt); taken = []; starts = refl; stood = stood_new frames sized_frames }

-- a dominant bit behind ten recessive ones
marks_start : (h : List ℕ) (b : ℕ) → AllBits h → b ≡ 0 → quiet ≤ recessives h → Marks (h ++ (b ∷ [])) (stuffed (0 ∷ []))
marks_start h b a e k = rw e (since_start h a k, coded_start, refl)

module _ (h : List ℕ) (b : ℕ) (bit : b < 2) (a : AllBits h) where
  abbrev Next : Where → Type 0
  Next = Marks (h ++ (b ∷ []))

  abbrev Leads : Row → Type 0
  Leads r = Marks (h ++ (b ∷ [])) r.goes

  one : eqb b 0 ≡ false → b ≡ 1
  one e = omega (arith, bit, eqb-false b 0 e)

  -- a recessive sample is one more
  counted : eqb b 0 ≡ false → recessives (h ++ (b ∷ [])) ≡ recessives h + 1
  counted e = recessives-snoc 0 h b ∙ rw e

  -- one more end-of-frame bit
  pub end_more : (k : ℕ) (g : Got) (x : ℕ) → eqb b 0 ≡ false → Since h (front g ++ (x ∷ recessive k))
      → Since (h ++ (b ∷ [])) (front g ++ (x ∷ recessive (k + 1)))
  end_more k g x e w =
      subst (Since (h ++ (b ∷ []))) (append_assoc (front g) (x ∷ recessive k) (b ∷ []) ∙ ap (λ (l : List ℕ). front g ++ (x ∷ l)) (ap (λ (y : ℕ). recessive k ++ (y ∷ [])) (one e) ∙ ones-snoc k))
      (since-snoc h (front g ++ (x ∷ recessive k)) b w)

  pub marks-row : (p : Where) → Marks h p → Marks (h ++ (b ∷ [])) (row h p b).goes
  marks-row waiting m = either Next (leb idle (recessives (h ++ (b ∷ [])))) (λ e. omega (arith, leb-true idle (recessives (h ++ (b ∷ []))) e)) (λ _. tt)
  marks-row ready m = either Next (eqb b 0) (λ e. marks_start h b a (eqb-true b 0 e) m) (λ e. omega (arith, counted e))
  marks-row (stuffed s) m =
      either Leads (sixth s b) (λ _. tt)
      (λ z. either Leads (newer_begun (s ++ (b ∷ []))) (λ _. tt)
      (λ _. marks-onward (h ++ (b ∷ [])) (s ++ (b ∷ [])) (since-snoc h s b m.0) (coded_more s b bit m.1 m.2 z)))
  marks-row (crc_delimiter g) m =
      either Leads (eqb b 0) (λ _. tt)
      (λ e. (subst (Since (h ++ (b ∷ []))) (ap (λ (x : ℕ). m.0 ++ (x ∷ [])) (one e) ∙ m.2) (since-snoc h m.0 b m.1), m.3))
  marks-row (ack_slot g) m = (since-snoc h (front g) b m.0, m.1, bit)
  marks-row (ack_delimiter g x) m =
      either Leads (eqb b 0) (λ _. tt)
      (λ e. either Leads (checks g)
      (λ c. (
        subst (Since (h ++ (b ∷ []))) (append_assoc (front g) (x ∷ []) (b ∷ []) ∙ ap (λ (y : ℕ). front g ++ (x ∷ y ∷ [])) (one e)) (since-snoc h (front g ++ (x ∷ [])) b m.0),
        m.1,
        m.2,
        c,
        omega (arith, counted e),
      ))
      (λ _. tt))
  marks-row (end_of_frame k g x) m =
      either Leads (eqb b 0)
      (λ _. either Leads (ltb k 7) (λ _. tt) (λ _. tt))
      (λ e. either Leads (ltb k 6)
      (λ _. (end_more k g x e m.0, m.1, m.2, m.3, omega (arith, counted e, m.4)))
      (λ q. either Leads (eqb k 6)
      (λ s.
      let six : k ≡ 6 = eqb-true k 6 s in
      (subst (λ (n : ℕ). Since (h ++ (b ∷ [])) (front g ++ (x ∷ recessive (n + 1)))) six (end_more k g x e m.0), m.1, m.2, m.3, omega (arith, counted e, m.4)))
      (λ s. omega (arith, counted e, m.4, ltb-false k 6 q, eqb-false k 6 s))))
  marks-row (intermission k) m =
      either Leads (eqb b 0)
      (λ e. either Leads (ltb k 3) (λ _. tt) (λ q. marks_start h b a (eqb-true b 0 e) (omega (arith, ltb-false k 3 q))))
      (λ e. either Leads (ltb k 3) (λ _. omega (arith, counted e)) (λ q. omega (arith, counted e, ltb-false k 3 q)))
