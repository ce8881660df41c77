-- The loop over a capture: what is left to seek gives the same, and each way out of the loop is the answer.
use Rattle.std.proofs.Common.{ℕ, ◌+◌, ◌<◌, ◌≤◌, suc-le-suc, ◌≡◌, refl, sym, ap, ◌∙◌, true, List, length, drop, get_or, Option}
use Rattle.reader.specs.declared.readers.Kept.{Kept}
use Rattle.line.specs.declared.cores.Core.{Core}
use Rattle.line.specs.declared.cores.Event.{Event}
use Rattle.line.specs.declared.cores.Event.TheVariants.{Keep, Whole, Failed}
use Rattle.line.specs.declared.cores.Stepped.{Stepped}
use Rattle.line.specs.Core.{stepped}
use Rattle.line.specs.Ranges.{core_fits}
use Rattle.line.proofs.RangesLaws.{fits-step}
use Rattle.listener.specs.declared.listeners.Listener.{Listener}
use Rattle.listener.specs.declared.answers.Heard.{Heard}
use Rattle.listener.specs.declared.answers.Found.{Found}
use Rattle.listener.specs.Listener.{kept_in, answer_to, refused, found_at, seek}
use Rattle.listener.specs.ListenerLaws.{heard-accepted, heard-refused, seek_on, seek_here}

-- an answer leaves the core as it is
pub next_core : (e : Event) (c : Core) (bytes : List ℕ) → (answer_to e c bytes).next.core ≡ c
next_core (Keep k) c bytes = refl
next_core Whole c bytes = refl
next_core (Failed x) c bytes = refl

abbrev pub with : Core → List ℕ → Listener
with c bytes = record { core = c; bytes = bytes }

-- `want` is what is sought, from the sample at a position on
module _ (capture bytes : List ℕ) (at : ℕ) (c : Core) (want : Found) (left : seek (with c bytes) at (drop at capture) ≡ want) where
  module _ (here : at < length capture) (fine : core_fits c ≡ true) where
    pub seek-refused : (r : Found) → 1 < get_or capture at 0 → r ≡ found_at at (refused 6 (with c bytes)) → r ≡ want
    seek-refused r big q =
        q
        ∙ sym (ap (seek_on at (drop (at + 1) capture)) (heard-refused (with c bytes) (get_or capture at 0) fine big))
        ∙ sym (seek_here capture at (with c bytes) here)
        ∙ left

    -- the sample is a bit, and leads to s
    module _ (s : Stepped) (bit : get_or capture at 0 ≤ 1) (step : s ≡ stepped c (get_or capture at 0)) where
      stepped_on : (e : Event) → s.event ≡ e → seek_on at (drop (at + 1) capture) (answer_to e s.core bytes) ≡ want
      stepped_on e told =
          ap (λ (x : Event). seek_on at (drop (at + 1) capture) (answer_to x s.core bytes)) (sym told)
          ∙ ap (λ (x : Stepped). seek_on at (drop (at + 1) capture) (answer_to x.event x.core bytes)) step
          ∙ sym (ap (seek_on at (drop (at + 1) capture)) (heard-accepted (with c bytes) (get_or capture at 0) fine (suc-le-suc bit)))
          ∙ sym (seek_here capture at (with c bytes) here)
          ∙ left

      -- any event but something to keep is answered here
      pub seek-out : (e : Event) (h : Heard) (r : Found) → ((k : Option Kept) → s.event ≡ Keep k → ⊥) → s.event ≡ e
          → h ≡ answer_to e s.core bytes → r ≡ found_at at h → r ≡ want
      seek-out (Keep k) h r other told p q = absurd (other k told)
      seek-out Whole h r other told p q = q ∙ ap (found_at at) p ∙ stepped_on Whole told
      seek-out (Failed x) h r other told p q = q ∙ ap (found_at at) p ∙ stepped_on (Failed x) told

      pub seek-turn : (k : Option Kept) (b : List ℕ) → s.event ≡ Keep k → b ≡ kept_in bytes k → seek (with s.core b) (at + 1) (drop (at + 1) capture) ≡ want
      seek-turn k b told e = ap (λ (x : List ℕ). seek (with s.core x) (at + 1) (drop (at + 1) capture)) e ∙ stepped_on (Keep k) told

-- the ranges are kept
pub fits-turn : (c : Core) (b : ℕ) (s : Stepped) → core_fits c ≡ true → b ≤ 1 → s ≡ stepped c b → core_fits s.core ≡ true
fits-turn c b s fine bit step = ap (λ (x : Stepped). core_fits x.core) step ∙ fits-step c b fine (suc-le-suc bit)
