-- The listener over records (01 "What the listener does at each sample", "When the handset says no"). Total on every record.
use Rattle.std.specs.Prelude.{ℕ, ◌+◌, Bool, true, false, cond, Option, Some, None, List, [], ◌∷◌, drop, set, replicate, eqb, ltb}
use Rattle.wire.specs.declared.frames.Received.{Received}
use Rattle.wire.specs.Numbers.{room}
use Rattle.reader.specs.declared.readers.Kept.{Kept}
use Rattle.reader.specs.Reader.{frame_of, noted_of}
use Rattle.line.specs.declared.inframe.InFrame.{InFrame}
use Rattle.line.specs.declared.cores.Core.{Core}
use Rattle.line.specs.declared.cores.Event.{Event}
use Rattle.line.specs.declared.cores.Event.TheVariants.{Keep, Whole, Failed}
use Rattle.line.specs.Core.{new_core, stepped}
use Rattle.line.specs.Ranges.{core_fits}
use Rattle.listener.specs.declared.listeners.Listener.{Listener}
use Rattle.listener.specs.declared.answers.Answer.{Answer}
use Rattle.listener.specs.declared.answers.Answer.TheVariants.{Nothing, Handed, Trouble, Refused}
use Rattle.listener.specs.declared.answers.Heard.{Heard}
use Rattle.listener.specs.declared.answers.Found.{Found}

abbrev pub new_listener : Listener
new_listener = record { core = new_core; bytes = replicate room 0 }

-- the frame that is handed out
abbrev pub received_of : InFrame → List ℕ → Received
received_of f bytes =
    record {
      frame = frame_of f.reader.registers bytes;
      acknowledged = eqb f.slot 0;
      noted = noted_of f.reader.registers;
    }

-- ONE SAMPLE

-- the data bytes with what a sample leaves to be kept
abbrev pub kept_in : List ℕ → Option Kept → List ℕ
kept_in bytes None = bytes
kept_in bytes (Some k) = set bytes k.at k.byte

abbrev pub answered : Answer → Core → List ℕ → Heard
answered a c bytes = record { answer = a; next = record { core = c; bytes = bytes } }

abbrev pub answer_to : Event → Core → List ℕ → Heard
answer_to (Keep k) c bytes = answered Nothing c (kept_in bytes k)
answer_to Whole c bytes = answered (Handed (received_of c.frame bytes)) c bytes
answer_to (Failed x) c bytes = answered (Trouble x) c bytes

-- a sample that is 0 or 1
abbrev pub accepted : Listener → ℕ → Heard
accepted l b = answer_to (stepped l.core b).event (stepped l.core b).core l.bytes

-- a refused call hands back the record it was given
abbrev pub refused : ℕ → Listener → Heard
refused n l = record { answer = Refused n; next = l }

abbrev pub fits : Listener → Bool
fits l = core_fits l.core

-- 7 comes before 6
abbrev pub heard : Listener → ℕ → Heard
heard l b = cond (fits l) (cond (ltb b 2) (accepted l b) (refused 6 l)) (refused 7 l)

-- OVER A CAPTURE

abbrev pub is_nothing : Answer → Bool
is_nothing Nothing = true
is_nothing (Handed r) = false
is_nothing (Trouble x) = false
is_nothing (Refused n) = false

abbrev pub found_at : ℕ → Heard → Found
found_at at h = record { heard = h; at = at }

-- the first answer that is not "nothing", from the sample at a position on; "nothing" behind the last
abbrev pub seek : Listener → ℕ → List ℕ → Found
seek l at [] = found_at at (record { answer = Nothing; next = l })
seek l at (b ∷ bs) =
    cond (is_nothing (heard l b).answer) (seek (heard l b).next (at + 1) bs) (found_at at (heard l b))

-- the record is looked at first; from past the end there is no sample to hear
abbrev pub found : Listener → List ℕ → ℕ → Found
found l capture from = cond (fits l) (seek l from (drop from capture)) (found_at from (refused 7 l))
