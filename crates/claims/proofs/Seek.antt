-- What is found in a capture, from what the calls say: samples that say nothing are passed over, and a frame that is handed out behind
-- them is found where it is. By induction over how many say nothing.
use Rattle.std.proofs.Common.{ℕ, zero, suc, ◌+◌, ◌-◌, ◌≡◌, refl, sym, ap, ◌∙◌, List, [], ◌∷◌, ◌++◌, arith, length, take, replicate, length-append}
use mathlib.Core.List.{head-eq_of_cons-eq, tail-eq_of_cons-eq}
use Rattle.std.proofs.Math.ListN.{length-replicate}
use Rattle.wire.specs.declared.frames.Received.{Received}
use Rattle.listener.specs.declared.listeners.Listener.{Listener}
use Rattle.listener.specs.declared.answers.Answer.TheVariants.{Nothing, Handed}
use Rattle.listener.specs.declared.answers.Heard.{Heard}
use Rattle.listener.specs.declared.answers.Found.{Found}
use Rattle.listener.specs.Listener.{heard, seek}
use Rattle.listener.specs.ListenerLaws.{seek_on}
use Rattle.claims.specs.Answers.{Said, nothing, handed, said}
use Rattle.claims.specs.Lines.{all_but_last}
use Rattle.claims.specs.Histories.{after_calls, answers_to}
use Rattle.claims.proofs.Said.{said-injective}
use Rattle.claims.proofs.Trace.{silence}

-- ONE ANSWER

-- a frame handed out at a position, and the record behind it
abbrev pub handed_at : Received → Listener → ℕ → Found
handed_at r l at = record { heard = record { answer = Handed r; next = l }; at = at }

module _ (h : Heard) (at : ℕ) (bs : List ℕ) where
  passed_over : said h ≡ nothing → seek_on at bs h ≡ seek h.next (at + 1) bs
  passed_over e = rw (said-injective h.answer Nothing e)

  stopped_at : (r : Received) → said h ≡ handed r → seek_on at bs h ≡ handed_at r h.next at
  stopped_at r e = rw (said-injective h.answer (Handed r) e)

-- OVER SAMPLES

-- none is answered: the record behind all of them
pub seek-silent : (l : Listener) (at : ℕ) (xs : List ℕ) → answers_to l xs ≡ silence xs → (seek l at xs).heard.next ≡ after_calls l xs
seek-silent l at [] e = refl
seek-silent l at (x ∷ xs) e =
    ap (λ (f : Found). f.heard.next) (passed_over (heard l x) at xs (head-eq_of_cons-eq e))
    ∙ seek-silent (heard l x).next (at + 1) xs (tail-eq_of_cons-eq e)

-- one is, behind k that are not: whatever comes behind it
seek_handed : (k : ℕ) (l : Listener) (at : ℕ) (xs ys : List ℕ) (r : Received) (ss : List Said)
    → answers_to l xs ≡ replicate k nothing ++ (handed r ∷ ss)
    → seek l at (xs ++ ys) ≡ handed_at r (after_calls l (take (suc k) xs)) (at + k)
seek_handed zero l at [] ys r ss e = cc
seek_handed (suc k) l at [] ys r ss e = cc
seek_handed zero l at (x ∷ xs) ys r ss e =
    stopped_at (heard l x) at (xs ++ ys) r (head-eq_of_cons-eq e)
    ∙ ap (handed_at r (heard l x).next) (omega arith)
seek_handed (suc k) l at (x ∷ xs) ys r ss e =
    passed_over (heard l x) at (xs ++ ys) (head-eq_of_cons-eq e)
    ∙ seek_handed k (heard l x).next (at + 1) xs ys r ss (tail-eq_of_cons-eq e)
    ∙ ap (handed_at r (after_calls (heard l x).next (take (suc k) xs))) (omega arith)

answers-length : (l : Listener) (xs : List ℕ) → length (answers_to l xs) ≡ length xs
answers-length l [] = refl
answers-length l (x ∷ xs) = ap suc (answers-length (heard l x).next xs)

-- samples that are answered as an image is
pub seek-reply : (l : Listener) (at : ℕ) (xs ys : List ℕ) (r : Received)
    → answers_to l xs ≡ replicate (length xs - 2) nothing ++ (handed r ∷ nothing ∷ [])
    → seek l at (xs ++ ys) ≡ handed_at r (after_calls l (all_but_last xs)) (at + (length xs - 2))
seek-reply l at xs ys r e =
    let k : ℕ = length xs - 2 in
    let n : length xs ≡ k + 2 =
    sym (answers-length l xs) ∙ ap length e ∙ length-append (replicate k nothing) (handed r ∷ nothing ∷ []) ∙ ap (λ (m : ℕ). m + 2) (length-replicate k nothing) in
    let m : suc k ≡ length xs - 1 = omega arith in
    seek_handed k l at xs ys r (nothing ∷ []) e ∙ ap (λ (j : ℕ). handed_at r (after_calls l (take j xs)) (at + k)) m
