-- The core over records, one sample at a time: decide, then act. Total on every record.
use Rattle.std.specs.Prelude.{ℕ, cond, None}
use Rattle.wire.specs.declared.runs.Run.{Run}
use Rattle.wire.specs.Numbers.{crc_width, crc_generator, crc_start, end_of_frame_bits}
use Rattle.wire.specs.Crc.{crc_step}
use Rattle.wire.specs.Stuffing.{ran}
use Rattle.wire.specs.Unstuffing.{sampled_as}
use Rattle.reader.specs.declared.fields.Field.{Field}
use Rattle.reader.specs.declared.readers.Reader.{Reader}
use Rattle.reader.specs.Reader.{new_reader, is_done, is_fdf, is_summed, took_of}
use Rattle.moves.specs.declared.places.Place.{Place}
use Rattle.moves.specs.declared.places.Place.TheVariants.{Waiting, Ready, Stuffed, AckSlot, AckDelimiter, EndOfFrame, Intermission}
use Rattle.moves.specs.declared.moves.Move.{Move}
use Rattle.moves.specs.declared.moves.Move.TheVariants.{Go, Begin, Take, Skip, Slot, HandOut, Fail}
use Rattle.line.specs.declared.inframe.InFrame.{InFrame}
use Rattle.line.specs.declared.cores.Core.{Core}
use Rattle.line.specs.declared.cores.Event.{Event}
use Rattle.line.specs.declared.cores.Event.TheVariants.{Keep, Whole, Failed}
use Rattle.line.specs.declared.cores.Stepped.{Stepped}
use Rattle.moves.specs.Moves.{quiet_after, when_waiting, when_ready, when_stuffed, when_ack_delimiter, when_end_of_frame, when_intermission}

-- WHAT IS KEPT OF A FRAME

-- the start of frame is one dominant sample
abbrev pub started : Run
started = record { last = 0; len = 1 }

-- behind the start of frame, whose dominant bit leaves the CRC's register as it starts
abbrev pub new_frame : InFrame
new_frame = record { run = started; reader = new_reader; crc = crc_start; slot = 0 }

-- the CRC's register takes a bit if it is no bit of the CRC
abbrev pub sum_after : Field → ℕ → ℕ → ℕ
sum_after x crc b = cond (is_summed x) (crc_step crc_width crc_generator crc b) crc

-- a bit of the frame, around the reader that has taken it
abbrev pub around : InFrame → Reader → ℕ → InFrame
around f r b = record { run = ran f.run b; reader = r; crc = sum_after f.reader.field f.crc b; slot = f.slot }

abbrev pub taken : InFrame → ℕ → InFrame
taken f b = around f (took_of f.reader b).reader b

-- a stuff bit
abbrev pub skipped : InFrame → ℕ → InFrame
skipped f b = record { run = ran f.run b; reader = f.reader; crc = f.crc; slot = f.slot }

abbrev pub slotted : InFrame → ℕ → InFrame
slotted f b = record { run = f.run; reader = f.reader; crc = f.crc; slot = b }

-- THE CORE

abbrev pub at : Place → ℕ → InFrame → Core
at p q f = record { place = p; quiet = q; frame = f }

-- new, it is waiting
abbrev pub new_core : Core
new_core = at Waiting 0 new_frame

-- decide: which move the sample b asks for, where q is the count of recessive samples with it
abbrev pub move_at : Place → InFrame → ℕ → ℕ → Move
move_at Waiting f b q = when_waiting q
move_at Ready f b q = when_ready b
move_at Stuffed f b q = when_stuffed (sampled_as f.run b) (is_done f.reader.field) (is_fdf f.reader.field) b
move_at AckSlot f b q = Slot
move_at AckDelimiter f b q = when_ack_delimiter b f.crc f.reader.registers.crc
move_at (EndOfFrame k) f b q = when_end_of_frame k b
move_at (Intermission k) f b q = when_intermission k b

abbrev pub told : Event → Place → ℕ → InFrame → Stepped
told e p q f = record { event = e; core = at p q f }

abbrev pub nothing : Event
nothing = Keep None

-- a bit of the frame, told with what it leaves to be kept
abbrev pub take_move : InFrame → ℕ → ℕ → Stepped
take_move f b q = told (Keep (took_of f.reader b).kept) Stuffed q (taken f b)

-- act
abbrev pub moved : InFrame → Move → ℕ → ℕ → Stepped
moved f (Go p) b q = told nothing p q f
moved f Begin b q = told nothing Stuffed q new_frame
moved f Take b q = take_move f b q
moved f Skip b q = told nothing Stuffed q (skipped f b)
moved f Slot b q = told nothing AckDelimiter q (slotted f b)
moved f HandOut b q = told Whole (EndOfFrame end_of_frame_bits) q f
moved f (Fail x) b q = told (Failed x) Waiting q f

-- one sample
abbrev pub stepped : Core → ℕ → Stepped
stepped c b =
    moved c.frame (move_at c.place c.frame b (quiet_after c.quiet b)) b (quiet_after c.quiet b)
