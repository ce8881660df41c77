-- What the writer answers, and what it leaves in the capture (01 "The wire image", "When the handset says no").
use Rattle.std.specs.Prelude.{ℕ, ◌+◌, Bool, false, cond, List, ◌++◌, Result, Ok, Err, eqb, length, take, drop}
use Rattle.wire.specs.declared.frames.Frame.{Frame}
use Rattle.wire.specs.declared.frames.Received.{Received}
use Rattle.wire.specs.Image.{image}
use Rattle.refusals.specs.declared.refusal.Refusal.{Refusal}
use Rattle.refusals.specs.Refusal.{number}
use Rattle.refusals.specs.Refusals.{refusal}

-- a frame as it is sent: SRR 1, r1 0, r0 0 and the slot 1
abbrev pub sent_as : Frame → Received
sent_as f = record { frame = f; acknowledged = false; noted = 0 }

-- the bits that it goes over the wire as
unfoldable pub wire_bits : Frame → List ℕ
wire_bits f = image (sent_as f)

-- the call's answer: refusal 0 and how many bits the image has, or a refusal's number and 0 bits
pub record Written : Type 0 where
  pub refusal : ℕ
  pub bits : ℕ

-- of the code's answer
abbrev pub as_written : Result ℕ Refusal → Written
as_written (Ok n) = record { refusal = 0; bits = n }
as_written (Err x) = record { refusal = number x; bits = 0 }

-- the call's answer and every byte of the capture behind it
pub record Outcome : Type 0 where
  pub written : Written
  pub capture : List ℕ

abbrev pub outcome : Written → List ℕ → Outcome
outcome w capture = record { written = w; capture = capture }

-- refused: 0 bits, and the capture as it was
abbrev pub refused : ℕ → List ℕ → Outcome
refused n capture = outcome (record { refusal = n; bits = 0 }) capture

-- an image placed at the start position: what stood before it, the image, what stood behind it
abbrev pub placed : List ℕ → List ℕ → ℕ → Outcome
placed image capture start =
    outcome
    (record { refusal = 0; bits = length image })
    (take start capture ++ image ++ drop (start + length image) capture)

-- of a frame, and whether "old controllers" is marked
unfoldable pub answer : Frame → Bool → List ℕ → ℕ → Outcome
answer f old capture start = answer_by (refusal f old (length (wire_bits f)) (length capture) start)
  where
    answer_by : ℕ → Outcome
    answer_by n = cond (eqb n 0) (placed (wire_bits f) capture start) (refused n capture)
