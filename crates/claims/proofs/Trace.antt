-- What the table says of a list of samples goes part by part; and samples of which it says nothing.
use Rattle.std.proofs.Common.{ℕ, ◌≡◌, refl, sym, ap, ap₂, ◌∙◌, List, [], ◌∷◌, ◌++◌, append-nil, append_assoc, length, replicate, length-append}
use Rattle.std.proofs.Math.ListN.{replicate-append-replicate}
use Rattle.claims.specs.Answers.{Said, nothing}
use Rattle.claims.specs.Table.{Where, Row, row, where_from, says_from}

pub where-append : (h : List ℕ) (p : Where) (xs ys : List ℕ) → where_from h p (xs ++ ys) ≡ where_from (h ++ xs) (where_from h p xs) ys
where-append h p [] ys = ap (λ (l : List ℕ). where_from l p ys) (sym (append-nil h))
where-append h p (x ∷ xs) ys =
    where-append (h ++ (x ∷ [])) (row h p x).goes xs ys
    ∙ ap (λ (l : List ℕ). where_from l (where_from (h ++ (x ∷ [])) (row h p x).goes xs) ys) (append_assoc h (x ∷ []) xs)

pub says-append : (h : List ℕ) (p : Where) (xs ys : List ℕ)
    → says_from h p (xs ++ ys) ≡ says_from h p xs ++ says_from (h ++ xs) (where_from h p xs) ys
says-append h p [] ys = ap (λ (l : List ℕ). says_from l p ys) (sym (append-nil h))
says-append h p (x ∷ xs) ys =
    ap (λ (t : List Said). (row h p x).says ∷ t)
    (says-append (h ++ (x ∷ [])) (row h p x).goes xs ys
    ∙ ap (λ (l : List ℕ). says_from (h ++ (x ∷ [])) (row h p x).goes xs ++ says_from l (where_from (h ++ (x ∷ [])) (row h p x).goes xs) ys) (append_assoc h (x ∷ []) xs))

-- SILENCE

abbrev pub silence : List ℕ → List Said
silence xs = replicate (length xs) nothing

pub silence-append : (xs ys : List ℕ) → silence xs ++ silence ys ≡ silence (xs ++ ys)
silence-append xs ys =
    replicate-append-replicate (length xs) (length ys) nothing ∙ ap (λ (n : ℕ). replicate n nothing) (sym (length-append xs ys))

-- behind any samples, these say nothing and lead from one place to another
pub record Silent (p : Where) (xs : List ℕ) (p' : Where) : Type 0 where
  pub goes : (h : List ℕ) → where_from h p xs ≡ p'
  pub says : (h : List ℕ) → says_from h p xs ≡ silence xs

pub silent-nil : (p : Where) → Silent p [] p
silent-nil p = record { goes = λ (h : List ℕ). refl; says = λ (h : List ℕ). refl }

pub silent_one : (p : Where) (b : ℕ) (p' : Where) → ((h : List ℕ) → row h p b ≡ record { says = nothing; goes = p' }) → Silent p (b ∷ []) p'
silent_one p b p' e = record { goes = λ (h : List ℕ). ap (λ (r : Row). r.goes) (e h); says = λ (h : List ℕ). ap (λ (r : Row). r.says ∷ []) (e h) }

pub hush : {p p' p'' : Where} {xs ys : List ℕ} → Silent p xs p' → Silent p' ys p'' → Silent p (xs ++ ys) p''
hush {p} {p'} {p''} {xs} {ys} a b =
    record {
      goes = λ (h : List ℕ). where-append h p xs ys ∙ ap (λ (w : Where). where_from (h ++ xs) w ys) (a.goes h) ∙ b.goes (h ++ xs);
      says = λ (h : List ℕ). says-append h p xs ys ∙ ap₂ (λ (s t : List Said). s ++ t) (a.says h) (ap (λ (w : Where). says_from (h ++ xs) w ys) (a.goes h) ∙ b.says (h ++ xs)) ∙ silence-append xs ys;
    }
