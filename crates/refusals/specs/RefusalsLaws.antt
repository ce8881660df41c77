-- Laws of rows of refusals: a number is given exactly where its row applies and none before it does; and what a frame and a place keep
-- to that are not refused.
use Rattle.std.specs.Prelude.{ℕ, ◌-◌, ◌≤◌, ◌≡◌, refl, ◌↔◌, Bool, true, false, cond, List, [], ◌∷◌, ◌++◌, eqb}
use Rattle.std.proofs.Common.{sym, ◌∙◌, true≢false, arith, ne_eqb, eqb-true, ltb-false}
use Rattle.std.proofs.lemmas.Bool.{false≢true, eqb-false, not-false}
use Rattle.wire.specs.declared.idents.Ident.{Ident}
use Rattle.wire.specs.declared.idents.Ident.TheVariants.{Base, Extended}
use Rattle.wire.specs.declared.frames.Frame.{Frame}
use Rattle.wire.specs.Numbers.{highest_base, highest_extended, highest_written}
use Rattle.wire.specs.Fields.{carried}
use Rattle.wire.specs.Legal.{IdentIn}
use Rattle.refusals.specs.Refusals.{Row, first, too_large, barred, frame_rows, place_rows, frame_refusal, place_refusal}

-- no row applies
abbrev pub None : List Row → Type 0
None [] = Unit {0}
None (r ∷ rs) = (r.applies ≡ false) × None rs

-- no row has the number n: a test, so that for rows that are written out `refl` proves it
abbrev pub absent : ℕ → List Row → Bool
absent n [] = true
absent n (r ∷ rs) = cond (eqb r.number n) false (absent n rs)

absent-cons : (n : ℕ) (r : Row) (rs : List Row) → absent n (r ∷ rs) ≡ true → (r.number ≡ n → ⊥) × (absent n rs ≡ true)
absent-cons n r rs h = go (eqb r.number n) refl h
  where
    go : (t : Bool) → eqb r.number n ≡ t → cond t false (absent n rs) ≡ true → (r.number ≡ n → ⊥) × (absent n rs ≡ true)
    go true e q = absurd (false≢true q)
    go false e q = (eqb-false r.number n e, q)

-- a number that no row has is not given, but for 0
first-absent : (n : ℕ) (rs : List Row) → absent n rs ≡ true → first rs ≡ n → n ≡ 0
first-absent n [] h e = sym e
first-absent n (r ∷ rs) h e = let w = absent-cons n r rs h in go r.applies w.0 (first-absent n rs w.1) e
  where
    go : (t : Bool) → (r.number ≡ n → ⊥) → (first rs ≡ n → n ≡ 0) → cond t r.number (first rs) ≡ n → n ≡ 0
    go true w i q = absurd (w q)
    go false w i q = i q

pub given_exactly : (before : List Row) (r : Row) (after : List Row)
    → absent r.number before ≡ true → absent r.number after ≡ true → absent 0 (r ∷ []) ≡ true
    → (first (before ++ (r ∷ after)) ≡ r.number) ↔ (None before × (r.applies ≡ true))
given_exactly [] r after p q z = go r.applies
  where
    go : (t : Bool) → (cond t r.number (first after) ≡ r.number) ↔ (Unit {0} × (t ≡ true))
    go true = (λ _. (tt, refl), λ _. refl)
    go false = (λ e. absurd ((absent-cons 0 r [] z).0 (first-absent r.number after q e)), λ e. absurd (false≢true e.1))
given_exactly (x ∷ xs) r after p q z =
    let w = absent-cons r.number x xs p in
    go x.applies w.0 (given_exactly xs r after w.1 q z)
  where
    go : (t : Bool) → (x.number ≡ r.number → ⊥) → ((first (xs ++ (r ∷ after)) ≡ r.number) ↔ (None xs × (r.applies ≡ true)))
        → (cond t x.number (first (xs ++ (r ∷ after))) ≡ r.number) ↔ (((t ≡ false) × None xs) × (r.applies ≡ true))
    go true w i = (λ e. absurd (w e), λ e. absurd (true≢false e.0.0))
    go false w i = (λ e. ((refl, (i.0 e).0), (i.0 e).1), λ e. i.1 (e.0.1, e.1))

pub none_exactly : (rs : List Row) → absent 0 rs ≡ true → (first rs ≡ 0) ↔ None rs
none_exactly [] h = (λ _. tt, λ _. refl)
none_exactly (r ∷ rs) h = let w = absent-cons 0 r rs h in go r.applies w.0 (none_exactly rs w.1)
  where
    go : (t : Bool) → (r.number ≡ 0 → ⊥) → ((first rs ≡ 0) ↔ None rs) → (cond t r.number (first rs) ≡ 0) ↔ ((t ≡ false) × None rs)
    go true w i = (λ e. absurd (w e), λ e. absurd (true≢false e.0))
    go false w i = (λ e. (refl, i.0 e), λ e. i.1 e.1)

-- rows behind rows are looked at where none of those applies
pub first-append : (xs ys : List Row) → absent 0 xs ≡ true → first (xs ++ ys) ≡ cond (eqb (first xs) 0) (first ys) (first xs)
first-append [] ys h = refl
first-append (x ∷ xs) ys h = let w = absent-cons 0 x xs h in go x.applies w.0 (first-append xs ys w.1)
  where
    go : (t : Bool) → (x.number ≡ 0 → ⊥) → first (xs ++ ys) ≡ cond (eqb (first xs) 0) (first ys) (first xs)
        → cond t x.number (first (xs ++ ys)) ≡ cond (eqb (cond t x.number (first xs)) 0) (first ys) (cond t x.number (first xs))
    go true w i = rw (ne_eqb x.number 0 w)
    go false w i = i

-- where nothing is marked, no identifier is barred
pub barred_unmarked : (i : Ident) → barred false i ≡ false
barred_unmarked (Base i) = refl
barred_unmarked (Extended i) = refl

-- and so a frame that is not refused under a mark is not refused without it
pub taken_unmarked : (f : Frame) (old : Bool) → frame_refusal f old ≡ 0 → frame_refusal f false ≡ 0
unfolding frame_refusal
taken_unmarked f old ok =
    let none = (none_exactly (frame_rows f old) refl).0 ok in
    (none_exactly (frame_rows f false) refl).1 (none.0, (barred_unmarked f.ident, none.1.1))

-- nor is its identifier barred
pub taken_not_barred : (f : Frame) (old : Bool) → frame_refusal f old ≡ 0 → barred old f.ident ≡ false
unfolding frame_refusal
taken_not_barred f old ok = ((none_exactly (frame_rows f old) refl).0 ok).1.0

-- what a frame that is not refused keeps to
module _ (f : Frame) (ok : frame_refusal f false ≡ 0) where
  none : None (frame_rows f false)
  unfolding frame_refusal
  none = (none_exactly (frame_rows f false) refl).0 ok

  pub ident_fits : IdentIn f.ident
  ident_fits = go f.ident none.0
    where
      go : (i : Ident) → too_large i ≡ false → IdentIn i
      go (Base i) e = omega (arith, ltb-false highest_base i.0 e)
      go (Extended i) e = omega (arith, ltb-false highest_extended i.0 e)

  pub code-fits : f.code ≤ highest_written
  code-fits = ltb-false highest_written f.code none.1.1.0

  -- it carries the bytes that it gives
  pub count_fits : carried f.remote f.code ≡ f.count
  count_fits =
      let n : ℕ = carried f.remote f.code in
      sym (eqb-true f.count n (not-false (eqb f.count n) none.1.1.1.0))

-- a place that is not refused lies inside the capture, and has room for the image
module _ (bits size start no : ℕ) (told : no ≡ place_refusal bits size start) (ok : no ≡ 0) where
  free : None (place_rows bits size start)
  free = (none_exactly (place_rows bits size start) refl).0 (sym told ∙ ok)

  pub start_fits : start ≤ size
  start_fits = ltb-false size start free.0

  pub bits_fit : bits ≤ size - start
  bits_fit = ltb-false (size - start) bits free.1.0
