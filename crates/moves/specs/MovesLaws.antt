-- Laws of the moves: the recessive count is held, and the place that a move names is within its range, wherever it is decided.
use Rattle.std.specs.Prelude.{ℕ, ◌+◌, ◌<◌, ◌≡◌, refl, Bool, true, false, cond, eqb, ltb}
use Rattle.std.proofs.Common.{arith, lit<, ltb-true, lt-ltb}
use Rattle.wire.specs.declared.runs.Sampled.{Sampled}
use Rattle.wire.specs.declared.runs.Sampled.TheVariants.{FrameBit, StuffBit, SixthEqual}
use Rattle.wire.specs.Numbers.{idle, end_of_frame_bits, hand_out_bit, intermission_bits}
use Rattle.moves.specs.declared.places.Place.TheVariants.{Waiting, Ready, AckSlot, EndOfFrame, Intermission}
use Rattle.moves.specs.declared.places.Fault.TheVariants.{FormError, CrcError, Overload, NewerFormat}
use Rattle.moves.specs.declared.moves.Move.{Move}
use Rattle.moves.specs.declared.moves.Move.TheVariants.{Go, Begin, Take, Skip, Slot, HandOut, Fail}
use Rattle.moves.specs.Moves.{quiet_after, when_waiting, when_ready, when_delimiter, when_fdf, when_stuffed, when_ack_delimiter, when_end_of_frame, when_intermission}
use Rattle.moves.specs.Ranges.{place_fits}

pub quiet-lt : (q b : ℕ) → quiet_after q b < idle + 1
quiet-lt q b = go (eqb b 0) (ltb q idle) refl
  where
    go : (t s : Bool) → ltb q idle ≡ s → cond t 0 (cond s (q + 1) idle) < idle + 1
    go true s e = lit< tt
    go false true e = omega (arith, ltb-true q idle e)
    go false false e = lit< tt

abbrev pub MoveFits : Move → Type 0
MoveFits (Go p) = place_fits p ≡ true
MoveFits Begin = Unit {0}
MoveFits Take = Unit {0}
MoveFits Skip = Unit {0}
MoveFits Slot = Unit {0}
MoveFits HandOut = Unit {0}
MoveFits (Fail x) = Unit {0}

either : (t : Bool) (m n : Move) → MoveFits m → MoveFits n → MoveFits (cond t m n)
either true m n p q = p
either false m n p q = q

pub waiting-fits : (q : ℕ) → MoveFits (when_waiting q)
waiting-fits q = either (ltb q idle) (Go Waiting) (Go Ready) refl refl

pub ready_fits : (b : ℕ) → MoveFits (when_ready b)
ready_fits b = either (eqb b 0) Begin (Go Ready) tt refl

pub stuffed_fits : (x : Sampled) (done fdf : Bool) (b : ℕ) → MoveFits (when_stuffed x done fdf b)
stuffed_fits FrameBit done fdf b =
    either done (when_delimiter b) (cond fdf (when_fdf b) Take) (either (eqb b 0) (Fail FormError) (Go AckSlot) tt refl)
    (either fdf (when_fdf b) Take (either (eqb b 0) Take (Fail NewerFormat) tt tt) tt)
stuffed_fits StuffBit done fdf b = tt
stuffed_fits SixthEqual done fdf b = tt

pub ack_delimiter_fits : (b sum crc : ℕ) → MoveFits (when_ack_delimiter b sum crc)
ack_delimiter_fits b sum crc =
    either (eqb b 0) (Fail FormError) (cond (eqb sum crc) (Go (EndOfFrame 1)) (Fail CrcError)) tt
    (either (eqb sum crc) (Go (EndOfFrame 1)) (Fail CrcError) refl tt)

pub end_of_frame_fits : (k b : ℕ) → MoveFits (when_end_of_frame k b)
end_of_frame_fits k b = go (eqb b 0) (ltb k hand_out_bit) refl
  where
    go : (t s : Bool) → ltb k hand_out_bit ≡ s → MoveFits (cond t (cond (ltb k end_of_frame_bits) (Fail FormError) (Fail Overload)) (cond s (Go (EndOfFrame (k + 1))) (cond (eqb k hand_out_bit) HandOut (Go (Intermission 1)))))
    go true s e = either (ltb k end_of_frame_bits) (Fail FormError) (Fail Overload) tt tt
    go false true e = rw (lt-ltb 0 (k + 1) (omega arith), lt-ltb (k + 1) (end_of_frame_bits + 1) (omega (arith, ltb-true k hand_out_bit e)))
    go false false e = either (eqb k hand_out_bit) HandOut (Go (Intermission 1)) tt refl

pub intermission_fits : (k b : ℕ) → MoveFits (when_intermission k b)
intermission_fits k b = go (eqb b 0) (ltb k intermission_bits) refl
  where
    go : (t s : Bool) → ltb k intermission_bits ≡ s → MoveFits (cond t (cond s (Fail Overload) Begin) (cond s (Go (Intermission (k + 1))) (Go Ready)))
    go true s e = either s (Fail Overload) Begin tt tt
    go false true e = rw (lt-ltb 0 (k + 1) (omega arith), lt-ltb (k + 1) (intermission_bits + 1) (omega (arith, ltb-true k intermission_bits e)))
    go false false e = refl
