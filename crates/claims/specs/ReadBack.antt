-- A frame that is written, and what is read back (demand 2; 01 "The wire image", "What the listener does at each sample").
use Rattle.std.specs.Prelude.{ℕ, ◌+◌, ◌-◌, ◌^◌, ◌<◌, ◌≡◌, Bool, false, cond, List, eqb, length, get_or}
use Rattle.wire.specs.declared.frames.Frame.{Frame}
use Rattle.wire.specs.declared.frames.Received.{Received}
use Rattle.wire.specs.Numbers.{room, byte_width, idle}
use Rattle.wire.specs.Fields.{trimmed}
use Rattle.listener.specs.declared.listeners.Listener.{Listener}
use Rattle.listener.specs.declared.answers.Answer.TheVariants.{Handed}
use Rattle.listener.specs.declared.answers.Found.{Found}
use Rattle.listener.specs.Listener.{refused, found_at}
use Rattle.writer.specs.Writer.{wire_bits, Outcome, answer}
use Rattle.claims.specs.Lines.{recessive, all_but_last}
use Rattle.claims.specs.Histories.{after_calls, reached}

-- the frame as it is read back: what stands behind its count is no part of it
abbrev pub read_as : Frame → Received
read_as f =
    record {
      frame = record { ident = f.ident; remote = f.remote; code = f.code; count = f.count; bytes = trimmed f.count f.bytes };
      acknowledged = false;
      noted = 0;
    }

-- what the code's type of a frame says of its data: an array of eight bytes
pub record EightBytes (f : Frame) : Type 0 where
  pub size : length f.bytes ≡ room
  pub byte : (i : ℕ) → get_or f.bytes i 0 < 2 ^ byte_width

-- WRITTEN INTO A CAPTURE, AND LISTENED TO FROM READY

-- a new listener, behind eleven recessive samples
unfoldable pub ready_listener : Listener
ready_listener = reached (recessive idle)

-- the frame is handed out, at the last but one of the samples that it goes over the wire as
abbrev pub handed_out : Frame → ℕ → Found
handed_out f start =
    record {
      heard = record { answer = Handed (read_as f); next = after_calls ready_listener (all_but_last (wire_bits f)) };
      at = start + (length (wire_bits f) - 2);
    }

-- the writer's refusal, by its number: the listener is as it was
abbrev pub not_written : ℕ → ℕ → Found
not_written n start = found_at start (refused n ready_listener)

-- the call's answer, and every byte of the capture behind it
pub record CameBack : Type 0 where
  pub found : Found
  pub capture : List ℕ

abbrev pub came_back : Found → List ℕ → CameBack
came_back r capture = record { found = r; capture = capture }

-- by what the writer answers, and as it leaves the capture
abbrev pub heard_back : Frame → ℕ → Outcome → CameBack
heard_back f start o =
    came_back
    (cond (eqb o.written.refusal 0) (handed_out f start) (not_written o.written.refusal start))
    o.capture

unfoldable pub read_back : Frame → Bool → List ℕ → ℕ → CameBack
read_back f old capture start = heard_back f start (answer f old capture start)
