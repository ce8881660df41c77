-- Laws of stuffing: it goes part by part, unstuffing undoes it, and what unstuffs unbroken was stuffed.
use Rattle.std.specs.Prelude.{ℕ, ◌+◌, ◌*◌, ◌<◌, ◌≤◌, ◌≡◌, refl, Bool, true, false, cond, List, [], ◌∷◌, ◌++◌, eqb, ltb, length}
use Rattle.std.proofs.Common.{sym, ap, ◌∙◌, append-nil, append_assoc, arith, length-append, eqb-true, eq-eqb, ne_eqb, ltb-false}
use Rattle.std.proofs.lemmas.Bool.{eqb-false}
use Rattle.wire.specs.declared.runs.Run.{Run}
use Rattle.wire.specs.Numbers.{five}
use Rattle.wire.proofs.BitsLaws.{AllBits, all_bits-append}
use Rattle.wire.specs.Stuffing.{ran, ran_from, Coding, dynamic, plain, Coded, Sample, frame, stuff, wire, opposite, due, sends, code_from, all, stuff_from}
use Rattle.wire.specs.Unstuffing.{unstuff_from, Unbroken}

-- PART BY PART

pub wire-append : (xs ys : List Sample) → wire (xs ++ ys) ≡ wire xs ++ wire ys
wire-append [] ys = refl
wire-append (x ∷ xs) ys = ap (λ (l : List ℕ). x.bit ∷ l) (wire-append xs ys)

pub all-append : (c : Coding) (xs ys : List ℕ) → all c (xs ++ ys) ≡ all c xs ++ all c ys
all-append c [] ys = refl
all-append c (x ∷ xs) ys = ap (λ (l : List Coded). record { how = c; bit = x } ∷ l) (all-append c xs ys)

pub ran-append : (u : Run) (xs ys : List ℕ) → ran_from u (xs ++ ys) ≡ ran_from (ran_from u xs) ys
ran-append u [] ys = refl
ran-append u (x ∷ xs) ys = ran-append (ran u x) xs ys

-- the run after what bits are sent as
abbrev pub run_after : Run → List Coded → Run
run_after u xs = ran_from u (wire (code_from u xs))

pub run-cons : (u : Run) (x : Coded) (xs : List Coded) → run_after u (x ∷ xs) ≡ run_after (ran_from u (wire (sends u x))) xs
run-cons u x xs =
    let v : Run = ran_from u (wire (sends u x)) in
    ap (ran_from u) (wire-append (sends u x) (code_from v xs)) ∙ ran-append u (wire (sends u x)) (wire (code_from v xs))

pub code-append : (u : Run) (xs ys : List Coded) → code_from u (xs ++ ys) ≡ code_from u xs ++ code_from (run_after u xs) ys
code-append u [] ys = refl
code-append u (x ∷ xs) ys =
    let v : Run = ran_from u (wire (sends u x)) in
    ap (λ (l : List Sample). sends u x ++ l) (code-append v xs ys ∙ ap (λ (w : Run). code_from v xs ++ code_from w ys) (sym (run-cons u x xs)))
    ∙ sym (append_assoc (sends u x) (code_from v xs) (code_from (run_after u (x ∷ xs)) ys))

-- behind the stuffed part the bits are as they are
pub code_plain : (u : Run) (bs : List ℕ) → wire (code_from u (all plain bs)) ≡ bs
code_plain u [] = refl
code_plain u (b ∷ bs) = ap (λ (l : List ℕ). b ∷ l) (code_plain (ran u b) bs)

pub stuff-append : (u : Run) (xs ys : List ℕ) → stuff_from u (xs ++ ys) ≡ stuff_from u xs ++ stuff_from (ran_from u (stuff_from u xs)) ys
stuff-append u xs ys =
    ap (λ (l : List Coded). wire (code_from u l)) (all-append dynamic xs ys)
    ∙ ap wire (code-append u (all dynamic xs) (all dynamic ys))
    ∙ wire-append (code_from u (all dynamic xs)) (code_from (run_after u (all dynamic xs)) (all dynamic ys))

pub unstuff-append : (u : Run) (xs ys : List ℕ) → unstuff_from u (xs ++ ys) ≡ unstuff_from u xs ++ unstuff_from (ran_from u xs) ys
unstuff-append u [] ys = refl
unstuff-append u (x ∷ xs) ys = rw (unstuff-append (ran u x) xs ys) (go (eqb u.len five) (unstuff_from (ran u x) xs) (unstuff_from (ran_from (ran u x) xs) ys))
  where
    go : (t : Bool) (k m : List ℕ) → cond t (k ++ m) (x ∷ (k ++ m)) ≡ cond t k (x ∷ k) ++ m
    go true k m = refl
    go false k m = refl

pub unbroken-append : (u : Run) (xs ys : List ℕ) → Unbroken u xs → Unbroken (ran_from u xs) ys → Unbroken u (xs ++ ys)
unbroken-append u [] ys p q = q
unbroken-append u (x ∷ xs) ys p q = (p.0, unbroken-append (ran u x) xs ys p.1 q)

-- UNSTUFFING UNDOES STUFFING

abbrev pub dyn : ℕ → Coded
dyn b = record { how = dynamic; bit = b }

-- the run behind one bit and what was due before it
abbrev pub past : Run → ℕ → Run
past u b = ran_from u (wire (sends u (dyn b)))

pub opposite_differs : (n : ℕ) → eqb (opposite n) n ≡ false
opposite_differs n = ne_eqb (opposite n) n (omega arith)

pub unstuff_sends : (u : Run) (b : ℕ) (ss : List ℕ) → unstuff_from u (wire (sends u (dyn b)) ++ ss) ≡ b ∷ unstuff_from (past u b) ss
unstuff_sends u b ss = go (eqb u.len five) refl
  where
    go : (t : Bool) → eqb u.len five ≡ t
        → unstuff_from u (wire (cond t (record { why = stuff; bit = opposite u.last } ∷ []) [] ++ (record { why = frame; bit = b } ∷ [])) ++ ss) ≡ b ∷ unstuff_from (ran_from u (wire (cond t (record { why = stuff; bit = opposite u.last } ∷ []) [] ++ (record { why = frame; bit = b } ∷ [])))) ss
    go true e = rw (e, opposite_differs u.last)
    go false e = rw e

unbroken_sends : (u : Run) (b : ℕ) (ss : List ℕ) → Unbroken (past u b) ss → Unbroken u (wire (sends u (dyn b)) ++ ss)
unbroken_sends u b ss = go (eqb u.len five) refl
  where
    go : (t : Bool) → eqb u.len five ≡ t
        → Unbroken (ran_from u (wire (cond t (record { why = stuff; bit = opposite u.last } ∷ []) [] ++ (record { why = frame; bit = b } ∷ [])))) ss
        → Unbroken u (wire (cond t (record { why = stuff; bit = opposite u.last } ∷ []) [] ++ (record { why = frame; bit = b } ∷ [])) ++ ss)
    go true e h = (rw (e, opposite_differs u.last), (rw (opposite_differs u.last), h))
    go false e h = (rw e, h)

pub stuff-cons : (u : Run) (b : ℕ) (bs : List ℕ) → stuff_from u (b ∷ bs) ≡ wire (sends u (dyn b)) ++ stuff_from (past u b) bs
stuff-cons u b bs = wire-append (sends u (dyn b)) (code_from (past u b) (all dynamic bs))

pub unstuff_stuff : (u : Run) (bs : List ℕ) → unstuff_from u (stuff_from u bs) ≡ bs
unstuff_stuff u [] = refl
unstuff_stuff u (b ∷ bs) =
    ap (unstuff_from u) (stuff-cons u b bs)
    ∙ unstuff_sends u b (stuff_from (past u b) bs)
    ∙ ap (λ (l : List ℕ). b ∷ l) (unstuff_stuff (past u b) bs)

pub unbroken_stuff : (u : Run) (bs : List ℕ) → Unbroken u (stuff_from u bs)
unbroken_stuff u [] = tt
unbroken_stuff u (b ∷ bs) = rw (stuff-cons u b bs) (unbroken_sends u b (stuff_from (past u b) bs) (unbroken_stuff (past u b) bs))

-- bits are sent as bits
sends-bits : (u : Run) (b : ℕ) → b < 2 → AllBits (wire (sends u (dyn b)))
sends-bits u b h = go (eqb u.len five)
  where
    go : (t : Bool)
        → AllBits (wire (cond t (record { why = stuff; bit = opposite u.last } ∷ []) [] ++ (record { why = frame; bit = b } ∷ [])))
    go true = (omega arith, (h, tt))
    go false = (h, tt)

pub stuff_bits : (u : Run) (bs : List ℕ) → AllBits bs → AllBits (stuff_from u bs)
stuff_bits u [] h = tt
stuff_bits u (b ∷ bs) h =
    rw (stuff-cons u b bs) (all_bits-append (wire (sends u (dyn b))) (stuff_from (past u b) bs) (sends-bits u b h.0) (stuff_bits (past u b) bs h.1))

-- AND THE OTHER WAY ROUND

-- the stuff bit that a run leaves due
abbrev pub due_bits : Run → List ℕ
due_bits u = wire (due dynamic u)

-- bits as sent, with the stuff bit that is then due
abbrev whole : Run → List ℕ → List ℕ
whole u bs = stuff_from u bs ++ due_bits (ran_from u (stuff_from u bs))

whole-cons : (u : Run) (b : ℕ) (bs : List ℕ) → whole u (b ∷ bs) ≡ wire (sends u (dyn b)) ++ whole (past u b) bs
whole-cons u b bs =
    let s : List ℕ = wire (sends u (dyn b)) in
    let t : List ℕ = stuff_from (past u b) bs in
    rw (stuff-cons u b bs, ran-append u s t) (append_assoc s t (due_bits (ran_from (past u b) t)))

-- the run's last sample is a bit where five equal ones end with it
abbrev pub Sampled : Run → Type 0
Sampled u = u.len ≡ five → u.last < 2

-- the stuff bit that is due comes first, and the rest is sent behind it
whole-due : (u : Run) (b : ℕ) (bs : List ℕ) → u.len ≡ five → b ≡ opposite u.last → whole u bs ≡ b ∷ whole (ran u b) bs
whole-due u b [] e d = rw (d, eq-eqb u.len five e, opposite_differs u.last)
whole-due u b (x ∷ bs) e d =
    whole-cons u x bs
    ∙ rw (d, eq-eqb u.len five e)
    (ap (λ (l : List ℕ). opposite u.last ∷ l) (sym (whole-cons (ran u (opposite u.last)) x bs ∙ rw (opposite_differs u.last))))

pub stuff_unstuff : (u : Run) (ss : List ℕ) → Sampled u → AllBits ss → Unbroken u ss
    → whole u (unstuff_from u ss) ≡ ss ++ due_bits (ran_from u ss)
stuff_unstuff u [] h a k = refl
stuff_unstuff u (b ∷ ss) h a k =
    go (eqb u.len five) refl
    (stuff_unstuff (ran u b) ss (λ (_ : (ran u b).len ≡ five). a.0) a.1 k.1)
  where
    go : (t : Bool) → eqb u.len five ≡ t → whole (ran u b) (unstuff_from (ran u b) ss) ≡ ss ++ due_bits (ran_from (ran u b) ss)
        → whole u (cond t (unstuff_from (ran u b) ss) (b ∷ unstuff_from (ran u b) ss)) ≡ b ∷ (ss ++ due_bits (ran_from (ran u b) ss))
    go true e q =
        let five-equal : u.len ≡ five = eqb-true u.len five e in
        let differs : eqb b u.last ≡ false = rw e at k.0 in
        let d : b ≡ opposite u.last = omega (arith, eqb-false b u.last differs, h five-equal, a.0) in
        whole-due u b (unstuff_from (ran u b) ss) five-equal d ∙ ap (λ (l : List ℕ). b ∷ l) q
    go false e q = whole-cons u b (unstuff_from (ran u b) ss) ∙ rw e (ap (λ (l : List ℕ). b ∷ l) q)

-- where nothing is due before the last sample, all of them are what the bits among them are sent as
pub stuff_unstuff_bit : (u : Run) (ss : List ℕ) (b : ℕ) → Sampled u → AllBits ss → Unbroken u ss → eqb (ran_from u ss).len five ≡ false
    → stuff_from u (unstuff_from u (ss ++ (b ∷ []))) ≡ ss ++ (b ∷ [])
stuff_unstuff_bit u ss b h a k e =
    let bs : List ℕ = unstuff_from u ss in
    let v : Run = ran_from u (stuff_from u bs) in
    let w : whole u bs ≡ ss = stuff_unstuff u ss h a k ∙ rw e (append-nil ss) in
    let one : stuff_from v (b ∷ []) ≡ due_bits v ++ (b ∷ []) =
    ap wire (append-nil (sends v (dyn b))) ∙ wire-append (due dynamic v) (record { why = frame; bit = b } ∷ []) in
    let more : unstuff_from u (ss ++ (b ∷ [])) ≡ bs ++ (b ∷ []) = unstuff-append u ss (b ∷ []) ∙ rw e in
    ap (stuff_from u) more
    ∙ stuff-append u bs (b ∷ [])
    ∙ ap (λ (l : List ℕ). stuff_from u bs ++ l) one
    ∙ sym (append_assoc (stuff_from u bs) (due_bits v) (b ∷ []))
    ∙ ap (λ (l : List ℕ). l ++ (b ∷ [])) w

-- LENGTH: at most one stuff bit for four bits

len_ran : (u : Run) (b : ℕ) → (0 < (ran u b).len) × ((ran u b).len ≤ u.len + 1)
len_ran u b = go (eqb b u.last) (ltb u.len five) refl
  where
    go : (s t : Bool) → ltb u.len five ≡ t
        → (0 < cond s (cond t (u.len + 1) five) 1) × (cond s (cond t (u.len + 1) five) 1 ≤ u.len + 1)
    go true true e = (omega arith, omega arith)
    go true false e = (omega arith, omega (arith, ltb-false u.len five e))
    go false t e = (omega arith, omega arith)

sends-length : (u : Run) (b : ℕ) → 0 < u.len → (0 < (past u b).len) × (4 * length (wire (sends u (dyn b))) + (past u b).len ≤ 5 + u.len)
sends-length u b h = go (eqb u.len five) refl
  where
    go : (t : Bool) → eqb u.len five ≡ t
        → (0 < (ran_from u (wire (cond t (record { why = stuff; bit = opposite u.last } ∷ []) [] ++ (record { why = frame; bit = b } ∷ [])))).len) × (4 * length (wire (cond t (record { why = stuff; bit = opposite u.last } ∷ []) [] ++ (record { why = frame; bit = b } ∷ []))) + (ran_from u (wire (cond t (record { why = stuff; bit = opposite u.last } ∷ []) [] ++ (record { why = frame; bit = b } ∷ [])))).len ≤ 5 + u.len)
    go true e =
        let k = len_ran (ran u (opposite u.last)) b in
        let one : (ran u (opposite u.last)).len ≡ 1 = rw (opposite_differs u.last) in
        (k.0, omega (arith, k.1, eqb-true u.len five e))
    go false e = let k = len_ran u b in (k.0, omega (arith, k.1))

pub stuff-length : (u : Run) (bs : List ℕ) → 0 < u.len → 4 * length (stuff_from u bs) + 1 ≤ 5 * length bs + u.len
stuff-length u [] h = omega arith
stuff-length u (b ∷ bs) h =
    let k = sends-length u b h in
    rw (stuff-cons u b bs)
    (omega (arith, k.1, length-append (wire (sends u (dyn b))) (stuff_from (past u b) bs), stuff-length (past u b) bs k.0))
