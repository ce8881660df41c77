-- Each public contract pins its result down: an equation as it is, and by the numbers, of which no two refusals have the same.
-- (`Display` has std's contract, which fixes what is printed where printing succeeds: docs/PROMISES.md.)
use Rattle.std.proofs.Common.{ℕ, ◌≡◌, sym, ◌∙◌}
use Rattle.std.specs.Prelude.{Result, ⊤}
use Rattle.proving.specs.Pinning.{Pinned, one}
use Rattle.refusals.specs.declared.refusal.Refusal.{Refusal}
use Rattle.refusals.specs.Refusal.{told}
use Rattle.refusals.specs.RefusalLaws.{told-injective}
use Rattle.refusals.proofs.frame as frame
use Rattle.refusals.proofs.place as place
use Rattle.refusals.proofs.refusal.Refusal as refusal

one_told : {v : ℕ} {q r : Result ⊤ Refusal} → told q ≡ v → told r ≡ v → q ≡ r
one_told p q = told-injective (p ∙ sym q)

pub record AllPinned : Type 0 where
  pub frame_refusal : Pinned 0 frame.frame_refusal.Kinds.ps frame.frame_refusal.Kinds.r frame.frame_refusal.Reads.Learnt
  pub place_refusal : Pinned 0 place.place_refusal.Kinds.ps place.place_refusal.Kinds.r place.place_refusal.Reads.Learnt
  pub number : Pinned 0 refusal.number.Kinds.ps refusal.number.Kinds.r refusal.number.Reads.Learnt

pub pinned : AllPinned
pinned = search (one, one_told)
