-- THE CENTRAL LEMMA: an image, heard where a dominant bit is a start of frame, says nothing and then its frame at the last but one
-- sample. By the definition of an image: stuffed bits of fields, and a closing.
use Rattle.std.proofs.Common.{ℕ, ◌+◌, ◌≡◌, refl, sym, ap, ap₂, subst, ◌∙◌, Bool, true, false, List, [], ◌∷◌, ◌++◌, append-nil, append_assoc, arith, eqb, length, drop, replicate, length-append, eq-eqb}
use Rattle.std.proofs.Math.ListN.{replicate-append-replicate}
use Rattle.wire.specs.declared.runs.Run.{Run}
use Rattle.wire.specs.declared.frames.Received.{Received}
use Rattle.wire.specs.Numbers.{five}
use Rattle.wire.specs.Stuffing.{none, ran_from, wire, opposite, sends, stuff_from}
use Rattle.wire.proofs.StuffingLaws.{dyn, ran-append, stuff-append, unstuff-append, unstuff_stuff, unstuff_sends, past, stuff-cons, opposite_differs}
use Rattle.wire.specs.Unstuffing.{unstuff_from}
use Rattle.wire.specs.Layout.{done, is_newer, Walker, enter, takes, Got, frames}
use Rattle.wire.proofs.LayoutLaws.{Open, Alive, takes-append}
use Rattle.wire.specs.Fields.{raw}
use Rattle.wire.specs.Image.{slot, image}
use Rattle.wire.proofs.ImageLaws.{got_of, closing, stuffed_bits, begun, image_parts, read_back}
use Rattle.wire.specs.Legal.{Legal}
use Rattle.wire.proofs.FramesLaws.{got_fields}
use Rattle.claims.specs.Answers.{Said, nothing, handed}
use Rattle.claims.specs.Table.{Where, ready, stuffed, crc_delimiter, ack_slot, intermission, reading, newer_begun, onward, sixth, checks, received_from, where_from, says_from}
use Rattle.claims.specs.Lines.{silent_for, reply}
use Rattle.claims.proofs.Frames.{legal_got, received_back}
use Rattle.claims.proofs.Stuffing.{walker, onward_open, onward-due, open_old}
use Rattle.claims.proofs.Trace.{where-append, says-append, Silent, silent-nil, silent_one, hush}

-- ONE SAMPLE OF THE STUFFED PART

-- behind samples s that stay in the stuffed part, one that is no sixth equal bit and begins no newer format
hears-sample : (s : List ℕ) (b : ℕ) → onward s ≡ stuffed s → sixth s b ≡ false → newer_begun (s ++ (b ∷ [])) ≡ false
    → Silent (onward s) (b ∷ []) (onward (s ++ (b ∷ [])))
hears-sample s b e z n = subst (λ (p : Where). Silent p (b ∷ []) (onward (s ++ (b ∷ [])))) (sym e) (silent_one (stuffed s) b (onward (s ++ (b ∷ []))) (λ (h : List ℕ). rw (z, n)))

-- WHAT IS DUE BEFORE A BIT

abbrev pub sent : List ℕ → ℕ → List ℕ
sent s b = wire (sends (ran_from none s) (dyn b))

-- the stuff bit that is due before the bit b, or none: it says nothing and is no bit of the frame, and behind it none is due
pub record Led (s : List ℕ) (b : ℕ) : Type 0 where
  pub due : List ℕ
  pub whole : sent s b ≡ due ++ (b ∷ [])
  pub silent : Silent (onward s) due (onward (s ++ due))
  pub same : reading (s ++ due) ≡ reading s
  pub run : eqb (ran_from none (s ++ due)).len five ≡ false

pub led : (s : List ℕ) (b : ℕ) → newer_begun s ≡ false → Led s b
led s b n = go (eqb (ran_from none s).len five) refl
  where
    go : (t : Bool) → eqb (ran_from none s).len five ≡ t → Led s b
    go true e =
        let c : ℕ = opposite (ran_from none s).last in
        let d : eqb c (ran_from none s).last ≡ false = opposite_differs (ran_from none s).last in
        let bits : unstuff_from none (s ++ (c ∷ [])) ≡ unstuff_from none s = unstuff-append none s (c ∷ []) ∙ rw e (append-nil (unstuff_from none s)) in
        let same : reading (s ++ (c ∷ [])) ≡ reading s = ap (λ (l : List ℕ). (walker (drop 1 l)).rest) bits in
        record {
          due = c ∷ [];
          whole = rw e;
          silent = hears-sample s c (onward-due s e n) (rw (e, d)) (ap is_newer same ∙ n);
          same = same;
          run = rw (ran-append none s (c ∷ []), d);
        }
    go false e =
        let nil : s ++ [] ≡ s = append-nil s in
        record {
          due = [];
          whole = rw e;
          silent = subst (λ (l : List ℕ). Silent (onward s) [] (onward l)) (sym nil) (silent-nil (onward s));
          same = ap reading nil;
          run = ap (λ (l : List ℕ). eqb (ran_from none l).len five) nil ∙ e;
        }

pub led_sent : (s : List ℕ) (b : ℕ) (l : Led s b) → (s ++ l.due) ++ (b ∷ []) ≡ s ++ sent s b
led_sent s b l = append_assoc s l.due (b ∷ []) ∙ ap (λ (x : List ℕ). s ++ x) (sym l.whole)

-- ONE BIT, WITH WHAT IS DUE BEFORE IT

hears_bit : (s : List ℕ) (b : ℕ) → Open (reading s) → newer_begun (s ++ sent s b) ≡ false → Silent (onward s) (sent s b) (onward (s ++ sent s b))
hears_bit s b o n =
    let l = led s b (open_old (reading s) o) in
    let s' : List ℕ = s ++ l.due in
    subst (λ (x : List ℕ). Silent (onward s) x (onward (s ++ sent s b))) (sym l.whole)
    (subst (λ (x : List ℕ). Silent (onward s) (l.due ++ (b ∷ [])) (onward x)) (led_sent s b l)
    (hush l.silent (hears-sample s' b (onward_open s' (subst Open (sym l.same) o)) (rw l.run) (ap newer_begun (led_sent s b l) ∙ n))))

-- BITS

-- what a bit leaves behind it
pub sent_unstuffed : (s : List ℕ) (b : ℕ) (xs : List ℕ) → unstuff_from none s ≡ 0 ∷ xs → unstuff_from none (s ++ sent s b) ≡ 0 ∷ (xs ++ (b ∷ []))
sent_unstuffed s b xs e =
    unstuff-append none s (sent s b)
    ∙ ap₂ (λ (k l : List ℕ). k ++ l) e
    (ap (unstuff_from (ran_from none s)) (sym (append-nil (sent s b))) ∙ unstuff_sends (ran_from none s) b [])

-- bits that are read to an end begin no newer format on the way
alive_old : (w : Walker Got) (bs : List ℕ) → Alive w bs → is_newer (takes w bs).rest ≡ false → is_newer w.rest ≡ false
alive_old w [] a n = n
alive_old w (b ∷ bs) a n = open_old w.rest a.0

pub hears-bits : (bs s xs : List ℕ) → unstuff_from none s ≡ 0 ∷ xs → Alive (walker xs) bs → is_newer (takes (walker xs) bs).rest ≡ false
    → Silent (onward s) (stuff_from (ran_from none s) bs) (onward (s ++ stuff_from (ran_from none s) bs))
hears-bits [] s xs e a n = subst (λ (l : List ℕ). Silent (onward s) [] (onward l)) (sym (append-nil s)) (silent-nil (onward s))
hears-bits (b ∷ bs) s xs e a n =
    let u : Run = ran_from none s in
    let s' : List ℕ = s ++ sent s b in
    let o : Open (reading s) = subst (λ (l : List ℕ). Open (walker (drop 1 l)).rest) (sym e) a.0 in
    let run : ran_from none s' ≡ past u b = ran-append none s (sent s b) in
    let more : walker (xs ++ (b ∷ [])) ≡ takes (walker xs) (b ∷ []) = takes-append (enter frames) xs (b ∷ []) in
    let a' : Alive (walker (xs ++ (b ∷ []))) bs = subst (λ (w : Walker Got). Alive w bs) (sym more) a.1 in
    let n' : is_newer (takes (walker (xs ++ (b ∷ []))) bs).rest ≡ false = ap (λ (w : Walker Got). is_newer (takes w bs).rest) more ∙ n in
    let old : newer_begun s' ≡ false =
    ap (λ (l : List ℕ). is_newer (walker (drop 1 l)).rest) (sent_unstuffed s b xs e) ∙ alive_old (walker (xs ++ (b ∷ []))) bs a' n' in
    let rest : Silent (onward s') (stuff_from (past u b) bs) (onward (s' ++ stuff_from (past u b) bs)) =
    subst (λ (v : Run). Silent (onward s') (stuff_from v bs) (onward (s' ++ stuff_from v bs))) run (hears-bits bs s' (xs ++ (b ∷ [])) (sent_unstuffed s b xs e) a' n') in
    subst (λ (l : List ℕ). Silent (onward s) l (onward (s ++ l))) (sym (stuff-cons u b bs))
    (subst (λ (l : List ℕ). Silent (onward s) (sent s b ++ stuff_from (past u b) bs) (onward l)) (append_assoc s (sent s b) (stuff_from (past u b) bs))
    (hush (hears_bit s b o old) rest))

-- THE CRC DELIMITER, with the stuff bit that may be due before it

hears_delimiter : (s : List ℕ) (g : Got) → reading s ≡ done g → Silent (onward s) (stuff_from (ran_from none s) (1 ∷ [])) (ack_slot g)
hears_delimiter s g r =
    let l = led s 1 (rw r) in
    let here : onward (s ++ l.due) ≡ crc_delimiter g = rw (l.same ∙ r, l.run) in
    subst (λ (x : List ℕ). Silent (onward s) x (ack_slot g)) (sym (stuff-cons (ran_from none s) 1 [] ∙ append-nil (sent s 1) ∙ l.whole))
    (hush l.silent (subst (λ (p : Where). Silent p (1 ∷ []) (ack_slot g)) (sym here) (silent_one (crc_delimiter g) 1 (ack_slot g) (λ (h : List ℕ). refl))))

-- THE CLOSING: slot, delimiter and end of frame

hears-closing : (g : Got) (a : ℕ) → checks g ≡ true → (h : List ℕ)
    → (says_from h (ack_slot g) (a ∷ 1 ∷ replicate 7 1) ≡ replicate 7 nothing ++ (handed (received_from g a) ∷ nothing ∷ [])) × (where_from h (ack_slot g) (a ∷ 1 ∷ replicate 7 1) ≡ intermission 1)
hears-closing g a e h = (rw e, rw (where_from, e))

-- AN IMAGE

-- where a dominant bit is a start of frame
pub data Idle : Where → Type 0 where
  is_ready : Idle ready
  is_third : Idle (intermission 3)

pub start : (p : Where) → Idle p → Silent p (0 ∷ []) (onward (0 ∷ []))
start ready is_ready = silent_one ready 0 (stuffed (0 ∷ [])) (λ (h : List ℕ). refl)
start _ is_third = silent_one (intermission 3) 0 (stuffed (0 ∷ [])) (λ (h : List ℕ). refl)

module _ (p : Where) (r : Received) (idle : Idle p) (l : Legal r) where
  abbrev got : Got
  got = got_of r

  abbrev fields : List ℕ
  fields = raw (got_fields (got_of r))

  -- start of frame to the CRC delimiter
  abbrev front : List ℕ
  front = 0 ∷ stuff_from begun (stuffed_bits r)

  hears-front : Silent p front (ack_slot got)
  hears-front =
      let back = read_back got (legal_got r l) in
      let s : List ℕ = 0 ∷ stuff_from begun fields in
      let whole : reading s ≡ done got = ap (λ (xs : List ℕ). (walker xs).rest) (unstuff_stuff begun fields) ∙ ap (λ (w : Walker Got). w.rest) back.ends in
      subst (λ (xs : List ℕ). Silent p (0 ∷ xs) (ack_slot got)) (sym (stuff-append begun fields (1 ∷ [])))
      (hush (start p idle) (hush (hears-bits fields (0 ∷ []) [] refl back.alive (ap (λ (w : Walker Got). is_newer w.rest) back.ends)) (hears_delimiter s got whole)))

  right : checks got ≡ true
  right = eq-eqb got.crc got.crc refl

  pub hears-image : (h : List ℕ) → (says_from h p (image r) ≡ reply r) × (where_from h p (image r) ≡ intermission 1)
  hears-image h =
      let c : List ℕ = closing r.acknowledged in
      let f = hears-front in
      let e : image r ≡ front ++ c = image_parts r in
      let t = hears-closing got (slot r.acknowledged) right (h ++ front) in
      let n : length front + 7 ≡ silent_for r = omega (arith, ap length e, length-append front c) in (
        ap (says_from h p) e
            ∙ says-append h p front c
            ∙ ap₂ (λ (x y : List Said). x ++ y) (f.says h) (ap (λ (w : Where). says_from (h ++ front) w c) (f.goes h) ∙ t.0)
            ∙ sym (append_assoc (replicate (length front) nothing) (replicate 7 nothing) (handed (received_from got (slot r.acknowledged)) ∷ nothing ∷ []))
            ∙ ap₂ (λ (x : List Said) (y : Received). x ++ (handed y ∷ nothing ∷ [])) (replicate-append-replicate (length front) 7 nothing ∙ ap (λ (k : ℕ). replicate k nothing) n) (received_back r l),
        ap (where_from h p) e ∙ where-append h p front c ∙ ap (λ (w : Where). where_from (h ++ front) w c) (f.goes h) ∙ t.1,
      )
