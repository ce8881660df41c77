-- What it is for a call's contract to pin its result down (01 "Pinning the answers down"): any two results that it allows for the same
-- arguments are equal. `learnt` is the contract as callers learn it.
use Rattle.std.proofs.Common.{sym, ap, ◌∙◌}
use Rattle.std.specs.Prelude.{ℕ, ◌≡◌, List}
use contract.Lifetimes.{Lfts}
use denote.Triple.Clauses.{AtExit}
use borrow.Fn.Kinds.{ParamKind, ResultKind, Out, Dens, res_t, ended_of}

abbrev pub Pinned : (n : ℕ) (ps : List (ParamKind n)) (r : ResultKind n) → Out n ps r → Type 0
Pinned n ps r learnt =
    (κs : Lfts n) (a : Dens κs ps) (x y : (res_t r κs).Denot) (s t : AtExit (ended_of n ps r) κs) → learnt κs a x s → learnt κs a y t → x ≡ y

-- so does every contract that is an equation
pub one : {R : Type 0} {v x y : R} → x ≡ v → y ≡ v → x ≡ y
one p q = p ∙ sym q

-- f takes no two values to one, where g finds each again: so an equation in f pins its argument
pub found_again : {A B : Type 0} (f : A → B) (g : B → A) → ((x : A) → g (f x) ≡ x) → {x y : A} → f x ≡ f y → x ≡ y
found_again f g again {x} {y} e = sym (again x) ∙ ap g e ∙ again y
