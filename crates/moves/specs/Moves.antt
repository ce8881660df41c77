-- What a sample asks for, place by place (01 "What the listener does at each sample").
use Rattle.std.specs.Prelude.{ℕ, ◌+◌, Bool, cond, eqb, ltb}
use Rattle.wire.specs.declared.runs.Sampled.{Sampled}
use Rattle.wire.specs.declared.runs.Sampled.TheVariants.{FrameBit, StuffBit, SixthEqual}
use Rattle.wire.specs.Numbers.{idle, end_of_frame_bits, hand_out_bit, intermission_bits}
use Rattle.moves.specs.declared.places.Place.TheVariants.{Waiting, Ready, AckSlot, EndOfFrame, Intermission}
use Rattle.moves.specs.declared.places.Fault.TheVariants.{StuffError, FormError, CrcError, Overload, NewerFormat}
use Rattle.moves.specs.declared.moves.Move.{Move}
use Rattle.moves.specs.declared.moves.Move.TheVariants.{Go, Begin, Take, Skip, HandOut, Fail}

-- how many recessive samples in a row there were last, held at eleven
abbrev pub quiet_after : ℕ → ℕ → ℕ
quiet_after quiet b = cond (eqb b 0) 0 (cond (ltb quiet idle) (quiet + 1) idle)

-- waiting: ready as soon as the last eleven are recessive
abbrev pub when_waiting : ℕ → Move
when_waiting quiet = cond (ltb quiet idle) (Go Waiting) (Go Ready)

-- ready: a dominant bit is a start of frame
abbrev pub when_ready : ℕ → Move
when_ready b = cond (eqb b 0) Begin (Go Ready)

abbrev pub when_delimiter : ℕ → Move
when_delimiter b = cond (eqb b 0) (Fail FormError) (Go AckSlot)

-- FDF (W-201): a recessive one begins a newer format
abbrev pub when_fdf : ℕ → Move
when_fdf b = cond (eqb b 0) Take (Fail NewerFormat)

-- a bit of the frame; behind the last CRC bit it is the CRC delimiter
abbrev pub when_bit : Bool → Bool → ℕ → Move
when_bit done fdf b = cond done (when_delimiter b) (cond fdf (when_fdf b) Take)

abbrev pub when_stuffed : Sampled → Bool → Bool → ℕ → Move
when_stuffed FrameBit done fdf b = when_bit done fdf b
when_stuffed StuffBit done fdf b = Skip
when_stuffed SixthEqual done fdf b = Fail StuffError

abbrev pub when_ack_delimiter : ℕ → ℕ → ℕ → Move
when_ack_delimiter b sum crc = cond (eqb b 0) (Fail FormError) (cond (eqb sum crc) (Go (EndOfFrame 1)) (Fail CrcError))

abbrev pub when_end_of_frame : ℕ → ℕ → Move
when_end_of_frame k b =
    cond (eqb b 0)
    (cond (ltb k end_of_frame_bits) (Fail FormError) (Fail Overload))
    (cond (ltb k hand_out_bit) (Go (EndOfFrame (k + 1))) (cond (eqb k hand_out_bit) HandOut (Go (Intermission 1))))

abbrev pub when_intermission : ℕ → ℕ → Move
when_intermission k b =
    cond (eqb b 0)
    (cond (ltb k intermission_bits) (Fail Overload) Begin)
    (cond (ltb k intermission_bits) (Go (Intermission (k + 1))) (Go Ready))
