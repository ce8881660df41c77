-- The contract of `read_back` pins the outcome down: any two that it allows for the same arguments agree in what was found and in every
-- byte of the capture, since both are what `read_back` gives.
use Rattle.std.proofs.Common.{ℕ, ◌≡◌, sym, ap, ◌∙◌, List}
use contract.Lifetimes.{Lfts}
use denote.Triple.Clauses.{AtExit}
use borrow.Fn.Kinds.{Dens, res_t, ended_of}
use Rattle.listener.specs.declared.answers.Found.{Found}
use Rattle.claims.specs.ReadBack.{CameBack, came_back}
use Rattle.claims.proofs.reads_back.read_back.Kinds as kinds
use Rattle.claims.proofs.reads_back.read_back.Reads as reads

one : {o : CameBack} {x y : Found} {c d : List ℕ} → came_back x c ≡ o → came_back y d ≡ o → (x ≡ y) × (c ≡ d)
one p q = (ap (λ (o : CameBack). o.found) (p ∙ sym q), ap (λ (o : CameBack). o.capture) (p ∙ sym q))

-- `Learnt` is the call's own contract, as its callers learn it
pub pinned : (κs : Lfts 1) (a : Dens κs kinds.ps) (x y : (res_t kinds.r κs).Denot) (s t : AtExit (ended_of 1 kinds.ps kinds.r) κs)
    → reads.Learnt κs a x s → reads.Learnt κs a y t → (x ≡ y) × (s.1.1.0.now ≡ t.1.1.0.now)
pinned κs a x y s t = one
