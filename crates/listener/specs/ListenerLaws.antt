-- Laws of the listener over a capture: what the sample at a position is answered, and what is left to seek behind it.
use Rattle.std.specs.Prelude.{ℕ, ◌+◌, ◌<◌, ◌≤◌, ◌≡◌, Bool, true, false, cond, List, [], ◌∷◌, length, drop, get_or}
use Rattle.std.proofs.Common.{sym, ap, ◌∙◌, le_refl, add-one, arith, drop_of_length-le, drop-cons, lt-ltb, le-ltb}
use Rattle.line.specs.Core.{stepped}
use Rattle.listener.specs.declared.listeners.Listener.{Listener}
use Rattle.listener.specs.declared.answers.Answer.TheVariants.{Nothing}
use Rattle.listener.specs.declared.answers.Heard.{Heard}
use Rattle.listener.specs.declared.answers.Found.{Found}
use Rattle.listener.specs.Listener.{answer_to, refused, fits, heard, is_nothing, found_at, seek, found}

-- ONE SAMPLE, where the record is within its ranges

module _ (l : Listener) (b : ℕ) (fine : fits l ≡ true) where
  pub heard-accepted : b < 2 → heard l b ≡ answer_to (stepped l.core b).event (stepped l.core b).core l.bytes
  heard-accepted h = rw (fine, lt-ltb b 2 h)

  pub heard-refused : 2 ≤ b → heard l b ≡ refused 6 l
  heard-refused h = rw (fine, le-ltb b 2 h)

-- OVER A CAPTURE

-- the answer to the sample at a position, or the first behind it
abbrev pub seek_on : ℕ → List ℕ → Heard → Found
seek_on at bs h = cond (is_nothing h.answer) (seek h.next (at + 1) bs) (found_at at h)

module _ (capture : List ℕ) (at : ℕ) (l : Listener) where
  pub seek_here : at < length capture → seek l at (drop at capture) ≡ seek_on at (drop (at + 1) capture) (heard l (get_or capture at 0))
  seek_here h =
      ap (seek l at) (drop-cons capture at 0 h)
      ∙ ap (λ (n : ℕ). seek_on at (drop n capture) (heard l (get_or capture at 0))) (sym (add-one at))

  pub seek-past : length capture ≤ at → seek l at (drop at capture) ≡ found_at at (record { answer = Nothing; next = l })
  seek-past h = ap (seek l at) (drop_of_length-le capture h)

-- the answer is that to a sample from the position on
step_from : (at : ℕ) (t : Bool) (f g : Found) → at + 1 ≤ f.at → at ≤ g.at → at ≤ (cond t f g).at
step_from at true f g p q = omega arith
step_from at false f g p q = q

pub seek_from : (l : Listener) (at : ℕ) (bs : List ℕ) → at ≤ (seek l at bs).at
seek_from l at [] = le_refl at
seek_from l at (b ∷ bs) =
    step_from at (is_nothing (heard l b).answer) (seek (heard l b).next (at + 1) bs) (found_at at (heard l b))
    (seek_from (heard l b).next (at + 1) bs)
    (le_refl at)

pub found_from : (l : Listener) (capture : List ℕ) (from : ℕ) → from ≤ (found l capture from).at
found_from l capture from = go (fits l)
  where
    go : (t : Bool) → from ≤ (cond t (seek l from (drop from capture)) (found_at from (refused 7 l))).at
    go true = seek_from l from (drop from capture)
    go false = le_refl from
