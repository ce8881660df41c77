-- The public contract pins the outcome down: any two that it allows for the same arguments agree in the answer and in every byte of the
-- capture, since both are what `answer` gives, and no two answers have the same number and bits.
use Rattle.std.specs.Prelude.{Result, Ok, Err, ⊤}
use Rattle.std.proofs.Common.{ℕ, ◌≡◌, refl, sym, ap, ◌∙◌, List}
use contract.Lifetimes.{Lfts}
use denote.Triple.Clauses.{AtExit}
use borrow.Fn.Kinds.{Dens, res_t, ended_of}
use Rattle.proving.specs.Pinning.{found_again}
use Rattle.refusals.specs.declared.refusal.Refusal.{Refusal}
use Rattle.refusals.specs.RefusalLaws.{answer_of, named}
use Rattle.writer.specs.Writer.{Written, as_written, Outcome, outcome}
use Rattle.writer.proofs.capture.write.Kinds as write-kinds
use Rattle.writer.proofs.capture.write.Reads as write-reads

-- `Learnt` is the call's own contract, as its callers learn it
pub record Public : Type 0 where
  pub write : (κs : Lfts 1) (a : Dens κs write-kinds.ps) (x y : (res_t write-kinds.r κs).Denot) (s t : AtExit (ended_of 1 write-kinds.ps write-kinds.r) κs)
      → write-reads.Learnt κs a x s → write-reads.Learnt κs a y t → (x ≡ y) × (s.1.1.0.now ≡ t.1.1.0.now)

-- the answer that a number and bits stand for
abbrev answer_by : Result ⊤ Refusal → ℕ → Result ℕ Refusal
answer_by (Ok u) n = Ok n
answer_by (Err x) n = Err x

abbrev answer_with : Written → Result ℕ Refusal
answer_with w = answer_by (answer_of w.refusal) w.bits

answered : (x : Result ℕ Refusal) → answer_with (as_written x) ≡ x
answered (Ok n) = refl
answered (Err x) = ap (λ (r : Result ⊤ Refusal). answer_by r 0) (named x)

as_written-injective : {x y : Result ℕ Refusal} → as_written x ≡ as_written y → x ≡ y
as_written-injective = found_again as_written answer_with answered

one : {o : Outcome} {x y : Result ℕ Refusal} {c d : List ℕ} → outcome (as_written x) c ≡ o → outcome (as_written y) d ≡ o → (x ≡ y) × (c ≡ d)
one p q = (as_written-injective (ap (λ (o : Outcome). o.written) (p ∙ sym q)), ap (λ (o : Outcome). o.capture) (p ∙ sym q))

pub pinned : Public
pinned = record { write = λ κs a x y s t. one }
