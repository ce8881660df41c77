-- Laws shaped like what the code's calls leave to show: a ready listener, and what it finds where a frame was written. The samples from the
-- start position on begin with the frame's image, which is answered as every legal image is.
use Rattle.std.proofs.Common.{ℕ, ◌+◌, ◌-◌, ◌≡◌, refl, sym, ap, subst, ◌∙◌, Bool, true, false, List, [], ◌∷◌, ◌++◌, append_assoc, length, take, drop, replicate, drop_at, length-take-le, eq-eqb, ne_eqb}
use Rattle.wire.specs.declared.frames.Frame.{Frame}
use Rattle.wire.specs.declared.frames.Received.{Received}
use Rattle.wire.specs.Numbers.{idle}
use Rattle.wire.specs.Image.{image}
use Rattle.wire.specs.Legal.{Legal}
use Rattle.moves.specs.declared.places.Place.TheVariants.{Ready}
use Rattle.listener.specs.declared.listeners.Listener.{Listener}
use Rattle.listener.specs.declared.answers.Heard.{Heard}
use Rattle.listener.specs.declared.answers.Found.{Found}
use Rattle.listener.specs.Listener.{new_listener, refused, fits, found_at, seek, found}
use Rattle.refusals.specs.Refusals.{frame_refusal}
use Rattle.writer.specs.Writer.{wire_bits, Written, outcome, answer}
use Rattle.writer.specs.WriterLaws.{frame_taken, inside, capture_placed}
use Rattle.claims.specs.Answers.{nothing, handed}
use Rattle.claims.specs.Lines.{recessive, reply}
use Rattle.claims.specs.Histories.{Listening, after_calls, answers_to}
use Rattle.claims.specs.ReadBack.{read_as, EightBytes, ready_listener, handed_out, came_back, heard_back, read_back}
use Rattle.claims.proofs.Trace.{silence}
use Rattle.claims.proofs.Calls.{fits-reached, as_table, image_heard}
use Rattle.claims.proofs.ReadBack.{legal_back, image_back}
use Rattle.claims.proofs.Seek.{seek-silent, seek-reply}

-- A LISTENER THAT IS READY

idle-silent : answers_to new_listener (recessive idle) ≡ silence (recessive idle)
idle-silent = as_table (recessive idle)

found-fits : (l : Listener) (capture : List ℕ) (from : ℕ) → fits l ≡ true → found l capture from ≡ seek l from (drop from capture)
found-fits l capture from t = rw t

-- what a new listener is behind all the samples of a capture that are eleven recessive ones
pub readied : (l : Listener) (xs : List ℕ) (r : Found) → l ≡ new_listener → xs ≡ recessive idle → r ≡ found l xs 0 → r.heard.next ≡ ready_listener
unfolding ready_listener
readied l xs r new one e =
    ap (λ (f : Found). f.heard.next) (e ∙ ap (λ (k : Listener). found k xs 0) new ∙ found-fits new_listener xs 0 (fits-reached []))
    ∙ seek-silent new_listener 0 xs (subst (λ (ys : List ℕ). answers_to new_listener ys ≡ silence ys) (sym one) idle-silent)
    ∙ ap (after_calls new_listener) one

fits_ready : fits ready_listener ≡ true
unfolding ready_listener
fits_ready = fits-reached (recessive idle)

pub place_ready : ready_listener.core.place ≡ Ready
unfolding ready_listener
place_ready = refl

ready_hears : (r : Received) → Legal r → answers_to ready_listener (image r) ≡ reply r
unfolding ready_listener
ready_hears r l = image_heard (recessive idle) r l (subst Listening (sym place_ready) tt)

-- A FRAME THAT WAS WRITTEN

module _ (f : Frame) (old : Bool) (c c' : List ℕ) (start : ℕ) (w : Written) (says : outcome w c' ≡ answer f old c start) where
  back_by : read_back f old c start ≡ heard_back f start (outcome w c')
  unfolding read_back
  back_by = ap (heard_back f start) (sym says)

  module _ (z : w.refusal ≡ 0) where
    taken : frame_refusal f false ≡ 0
    taken = frame_taken f old c c' start w says z

    -- from the start position on: the image, and what stood behind it
    from_start : drop start c' ≡ wire_bits f ++ drop (start + length (wire_bits f)) c
    from_start =
        ap (drop start) (capture_placed f old c c' start w says z ∙ append_assoc (take start c) (wire_bits f) (drop (start + length (wire_bits f)) c))
        ∙ drop_at (take start c) (wire_bits f ++ drop (start + length (wire_bits f)) c) start (length-take-le start c (inside f old c c' start w says z))

    -- the image is answered as that of the frame that is read back
    sent-heard : EightBytes f
        → answers_to ready_listener (wire_bits f) ≡ replicate (length (wire_bits f) - 2) nothing ++ (handed (read_as f) ∷ nothing ∷ [])
    unfolding wire_bits
    sent-heard b =
        subst (λ (v : List ℕ). answers_to ready_listener v ≡ replicate (length v - 2) nothing ++ (handed (read_as f) ∷ nothing ∷ []))
        (sym (image_back f taken b))
        (ready_hears (read_as f) (legal_back f taken b))

    handed_out_lem : EightBytes f → found ready_listener c' start ≡ handed_out f start
    handed_out_lem b =
        found-fits ready_listener c' start fits_ready
        ∙ ap (seek ready_listener start) from_start
        ∙ seek-reply ready_listener start (wire_bits f) (drop (start + length (wire_bits f)) c) (read_as f) (sent-heard b)

    pub back_handed : EightBytes f → {l : Listener} {x : Found} → l ≡ ready_listener → x ≡ found l c' start
        → came_back x c' ≡ read_back f old c start
    back_handed b ready e =
        ap (λ (y : Found). came_back y c') (e ∙ ap (λ (k : Listener). found k c' start) ready ∙ handed_out_lem b)
        ∙ sym (rw (back_by, eq-eqb w.refusal 0 z))

  pub back_refused : (w.refusal ≡ 0 → ⊥) → {l : Listener} {h : Heard} {x : Found}
      → l ≡ ready_listener → h ≡ refused w.refusal l → x ≡ found_at start h → came_back x c' ≡ read_back f old c start
  back_refused given ready e q = rw (q, e, ready, back_by, ne_eqb w.refusal 0 given)
