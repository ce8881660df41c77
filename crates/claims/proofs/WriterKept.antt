-- The writer's promises are kept: by the laws of its contract, and by the central lemma for what is read back.
use Rattle.std.proofs.Common.{ℕ, ◌≡◌, ap, ◌∙◌, Bool, List}
use Rattle.wire.specs.declared.frames.Frame.{Frame}
use Rattle.wire.proofs.ImageLaws.{image_length}
use Rattle.refusals.specs.Refusals.{frame_refusal}
use Rattle.refusals.specs.RefusalsLaws.{taken_unmarked}
use Rattle.writer.specs.Exactly.{call_exactly}
use Rattle.writer.specs.Writer.{wire_bits, Written, outcome, answer}
use Rattle.writer.specs.WriterLaws.{refused-bits, refused_capture, written_bits, capture_placed}
use Rattle.claims.specs.Histories.{answers_to, reached, Listening}
use Rattle.claims.specs.ReadBack.{read_as, EightBytes}
use Rattle.claims.specs.Promises.{WriterPromises}
use Rattle.claims.proofs.ReadBack.{legal_back, image_back}
use Rattle.claims.proofs.Calls.{image_heard}
use Rattle.claims.proofs.OldControllers.{eight, upper_seven_is, but_for_eight}

pub writer_kept : WriterPromises
unfolding wire_bits
writer_kept =
    record {
      refusals = call_exactly;
      untouched = λ (f : Frame) (old : Bool) (c c' : List ℕ) (start : ℕ) (w : Written) (e : outcome w c' ≡ answer f old c start) (n : w.refusal ≡ 0 → ⊥). (refused-bits f old c c' start w e n, refused_capture f old c c' start w e n);
      written = λ (f : Frame) (old : Bool) (c c' : List ℕ) (start : ℕ) (w : Written) (e : outcome w c' ≡ answer f old c start) (z : w.refusal ≡ 0). (written_bits f old c c' start w e z, capture_placed f old c c' start w e z);
      reads_back = λ (h : List ℕ) (f : Frame) (old : Bool) (b : EightBytes f) (ok : frame_refusal f old ≡ 0) (l : Listening (reached h).core.place). ap (answers_to (reached h)) (image_back f (taken_unmarked f old ok) b) ∙ image_heard h (read_as f) (legal_back f (taken_unmarked f old ok) b) l;
      eight = eight;
      upper_seven_is = upper_seven_is;
      but_for_eight = but_for_eight;
      image_length = image_length;
    }
