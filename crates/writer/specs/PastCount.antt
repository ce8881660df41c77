-- Bytes past the count are no part of a frame: whatever they are, the answer and the capture are the same.
use Rattle.std.specs.Prelude.{ℕ, ◌≡◌, Bool, List, take}
use Rattle.std.proofs.Math.Path.{refl}
use Rattle.std.proofs.Math.Bool.{true, false}
use Rattle.std.proofs.Math.Dec.{eqb}
use Rattle.std.proofs.Common.{eqb-true}
use Rattle.wire.specs.declared.frames.Frame.{Frame}
use Rattle.wire.specs.Fields.{carried_bytes}
use Rattle.refusals.specs.Refusals.{frame_refusal, refusal}
use Rattle.refusals.specs.RefusalsLaws.{taken_unmarked, count_fits}
use Rattle.writer.specs.Writer.{wire_bits, answer}
use Rattle.writer.specs.WriterLaws.{refusal-first}

-- other bytes past the count: the same answer, and the same capture
module _ (f : Frame) (old : Bool) (bytes : List ℕ) (same : take f.count bytes ≡ take f.count f.bytes) where
  abbrev pub others : Frame
  others = record { ident = f.ident; remote = f.remote; code = f.code; count = f.count; bytes = bytes }

  same_bits : frame_refusal f old ≡ 0 → wire_bits others ≡ wire_bits f
  unfolding wire_bits
  same_bits ok =
      let e : carried_bytes others ≡ carried_bytes f = rw (count_fits f (taken_unmarked f old ok)) same in
      rw e

  same_answer : (c : List ℕ) (start : ℕ) → wire_bits others ≡ wire_bits f → answer others old c start ≡ answer f old c start
  unfolding answer refusal
  same_answer c start e = rw e

  pub past_count : (c : List ℕ) (start : ℕ) → answer others old c start ≡ answer f old c start
  unfolding answer frame_refusal
  past_count c start = go (eqb (frame_refusal f old) 0) refl
    where
      go : (t : Bool) → eqb (frame_refusal f old) 0 ≡ t → answer others old c start ≡ answer f old c start
      go true e = same_answer c start (same_bits (eqb-true (frame_refusal f old) 0 e))
      go false e = rw (refusal-first others old c start, refusal-first f old c start, e, e)
