-- Where an image just fits and where it just does not (01 "Samples to try"), for every frame that is not refused by itself.
use Rattle.std.specs.Prelude.{ℕ, ◌+◌, ◌-◌, ◌≤◌, ◌≡◌, Bool, List, length}
use Rattle.std.proofs.Common.{arith, lt-ltb, le-ltb}
use Rattle.wire.specs.declared.frames.Frame.{Frame}
use Rattle.refusals.specs.Refusals.{frame_refusal, refusal}
use Rattle.writer.specs.Writer.{wire_bits}
use Rattle.writer.specs.WriterLaws.{refusal-first}
use Rattle.writer.specs.LengthLaws.{sent_some}

module _ (f : Frame) (old : Bool) (ok : frame_refusal f old ≡ 0) (c : List ℕ) (start : ℕ) where
  abbrev given : ℕ
  given = refusal f old (length (wire_bits f)) (length c) start

  -- it ends where the capture ends
  pub just_fits : start + length (wire_bits f) ≡ length c → given ≡ 0
  just_fits e =
      rw (
        refusal-first,
        ok,
        le-ltb (length c) start (omega arith),
        le-ltb (length c - start) (length (wire_bits f)) (omega arith),
      )

  -- one byte less
  pub just_longer : start ≤ length c → start + length (wire_bits f) ≡ length c + 1 → given ≡ 5
  just_longer h e =
      rw (
        refusal-first,
        ok,
        le-ltb (length c) start h,
        lt-ltb (length c - start) (length (wire_bits f)) (omega arith),
      )

  -- at the very end no bit fits, also where the capture is empty
  pub at-end : start ≡ length c → given ≡ 5
  at-end e =
      rw (
        refusal-first,
        ok,
        le-ltb (length c) start (omega arith),
        lt-ltb (length c - start) (length (wire_bits f)) (omega (arith, sent_some f)),
      )

  pub past-end : start ≡ length c + 1 → given ≡ 4
  past-end e = rw (refusal-first, ok, lt-ltb (length c) start (omega arith))
