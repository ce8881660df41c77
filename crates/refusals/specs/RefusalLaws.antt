-- Laws of the numbers: no two refusals have one number, and none has 0. By the answer that a number stands for.
use Rattle.std.specs.Prelude.{ℕ, ◌≡◌, refl, List, [], ◌∷◌, get_or, Result, Ok, Err, ⊤}
use Rattle.proving.specs.Pinning.{found_again}
use Rattle.refusals.specs.declared.refusal.Refusal.{Refusal}
use Rattle.refusals.specs.declared.refusal.Refusal.TheVariants.{Identifier, Code, Count, Start, Room, Sample, Record, OldControllers}
use Rattle.refusals.specs.Refusal.{number, told}

-- the answers in the order of their numbers
abbrev answers : List (Result ⊤ Refusal)
answers =
    Ok tt ∷ Err Identifier ∷ Err Code ∷ Err Count ∷ Err Start ∷ Err Room ∷ Err Sample ∷ Err Record ∷ Err OldControllers ∷ []

abbrev pub answer_of : ℕ → Result ⊤ Refusal
answer_of n = get_or answers n (Ok tt)

pub named : (x : Refusal) → answer_of (number x) ≡ Err x
named Identifier = refl
named Code = refl
named Count = refl
named Start = refl
named Room = refl
named Sample = refl
named Record = refl
named OldControllers = refl

answered : (r : Result ⊤ Refusal) → answer_of (told r) ≡ r
answered (Ok u) = refl
answered (Err x) = named x

pub told-injective : {q r : Result ⊤ Refusal} → told q ≡ told r → q ≡ r
told-injective = found_again told answer_of answered

pub number-some : (x : Refusal) → number x ≡ 0 → ⊥
number-some x z = let e : Err x ≡ Ok tt = told-injective z in cc
