-- Laws of the core's ranges: a new core keeps to them, and so does every sample.
use Rattle.std.specs.Prelude.{ℕ, ◌+◌, ◌^◌, ◌<◌, ◌≡◌, refl, Bool, true, false, cond, ◌&&◌, eqb, ltb}
use Rattle.std.proofs.Common.{arith, lit<, ltb-true, lt-ltb}
use Rattle.wire.specs.declared.runs.Run.{Run}
use Rattle.wire.specs.Numbers.{five, crc_width, crc_generator, end_of_frame_bits, idle}
use Rattle.wire.specs.Crc.{crc_step}
use Rattle.wire.proofs.CrcLaws.{crc_step-lt}
use Rattle.wire.specs.Stuffing.{ran}
use Rattle.wire.specs.Unstuffing.{sampled_as}
use Rattle.reader.specs.Reader.{is_done, is_fdf, is_summed}
use Rattle.reader.specs.Ranges.{reader_fits}
use Rattle.reader.specs.RangesLaws.{and_true, true_and, fits-took}
use Rattle.moves.specs.declared.places.Place.{Place}
use Rattle.moves.specs.declared.places.Place.TheVariants.{Waiting, Ready, Stuffed, AckSlot, AckDelimiter, EndOfFrame, Intermission}
use Rattle.moves.specs.declared.moves.Move.{Move}
use Rattle.moves.specs.declared.moves.Move.TheVariants.{Go, Begin, Take, Skip, Slot, HandOut, Fail}
use Rattle.line.specs.declared.inframe.InFrame.{InFrame}
use Rattle.line.specs.declared.cores.Core.{Core}
use Rattle.moves.specs.Moves.{quiet_after}
use Rattle.moves.specs.MovesLaws.{MoveFits, quiet-lt, waiting-fits, ready_fits, stuffed_fits, ack_delimiter_fits, end_of_frame_fits, intermission_fits}
use Rattle.moves.specs.Ranges.{place_fits}
use Rattle.line.specs.Core.{new_frame, taken, skipped, slotted, at, new_core, move_at, moved, stepped}
use Rattle.line.specs.Ranges.{run_fits, frame_fits, core_fits}

-- WHAT IS KEPT OF A FRAME

pub record FrameIn (f : InFrame) : Type 0 where
  pub run : run_fits f.run ≡ true
  pub reader : reader_fits f.reader ≡ true
  pub crc : f.crc < 2 ^ crc_width
  pub slot : f.slot < 2

pub frame_in : (f : InFrame) → frame_fits f ≡ true → FrameIn f
frame_in f e =
    let e3 = true_and _ _ e in
    let e2 = true_and _ _ e3.0 in
    let e1 = true_and _ _ e2.0 in
    record { run = e1.0; reader = e1.1; crc = ltb-true _ _ e2.1; slot = ltb-true _ _ e3.1 }

pub in_frame : (f : InFrame) → FrameIn f → frame_fits f ≡ true
in_frame f i = search (and_true, lt-ltb)

ran-fits : (u : Run) (b : ℕ) → b < 2 → run_fits (ran u b) ≡ true
ran-fits u b h = go (eqb b u.last) (ltb u.len five) refl
  where
    go : (t s : Bool) → ltb u.len five ≡ s → run_fits (record { last = b; len = cond t (cond s (u.len + 1) five) 1 }) ≡ true
    go true true e = rw (lt-ltb b 2 h, lt-ltb 0 (u.len + 1) (omega arith), lt-ltb (u.len + 1) (five + 1) (omega (arith, ltb-true u.len five e)))
    go true false e = rw (lt-ltb b 2 h)
    go false s e = rw (lt-ltb b 2 h)

module _ (f : InFrame) (b : ℕ) (bit : b < 2) (i : FrameIn f) where
  taken_in : FrameIn (taken f b)
  taken_in = record { run = ran-fits f.run b bit; reader = fits-took f.reader b i.reader; crc = go (is_summed f.reader.field); slot = i.slot }
    where
      go : (t : Bool) → cond t (crc_step crc_width crc_generator f.crc b) f.crc < 2 ^ crc_width
      go true = crc_step-lt crc_width crc_generator f.crc b (lit< tt)
      go false = i.crc

  skipped_in : FrameIn (skipped f b)
  skipped_in = record { run = ran-fits f.run b bit; reader = i.reader; crc = i.crc; slot = i.slot }

  slotted_in : FrameIn (slotted f b)
  slotted_in = record { run = i.run; reader = i.reader; crc = i.crc; slot = bit }

pub new_in : FrameIn new_frame
new_in = frame_in new_frame refl

-- THE CORE

move_fits : (p : Place) (f : InFrame) (b q : ℕ) → MoveFits (move_at p f b q)
move_fits Waiting f b q = waiting-fits q
move_fits Ready f b q = ready_fits b
move_fits Stuffed f b q = stuffed_fits (sampled_as f.run b) (is_done f.reader.field) (is_fdf f.reader.field) b
move_fits AckSlot f b q = tt
move_fits AckDelimiter f b q = ack_delimiter_fits b f.crc f.reader.registers.crc
move_fits (EndOfFrame k) f b q = end_of_frame_fits k b
move_fits (Intermission k) f b q = intermission_fits k b

core_fits_lem : (p : Place) (q : ℕ) (f : InFrame) → q < idle + 1 → place_fits p ≡ true → FrameIn f → core_fits (at p q f) ≡ true
core_fits_lem p q f h e i = and_true (and_true (lt-ltb q (idle + 1) h) e) (in_frame f i)

moved-fits : (f : InFrame) (m : Move) (b q : ℕ) → b < 2 → q < idle + 1 → FrameIn f → MoveFits m → core_fits (moved f m b q).core ≡ true
moved-fits f (Go p) b q bit h i e = core_fits_lem p q f h e i
moved-fits f Begin b q bit h i e = core_fits_lem Stuffed q new_frame h refl new_in
moved-fits f Take b q bit h i e = core_fits_lem Stuffed q (taken f b) h refl (taken_in f b bit i)
moved-fits f Skip b q bit h i e = core_fits_lem Stuffed q (skipped f b) h refl (skipped_in f b bit i)
moved-fits f Slot b q bit h i e = core_fits_lem AckDelimiter q (slotted f b) h refl (slotted_in f b bit i)
moved-fits f HandOut b q bit h i e = core_fits_lem (EndOfFrame end_of_frame_bits) q f h refl i
moved-fits f (Fail x) b q bit h i e = core_fits_lem Waiting q f h refl i

pub fits-new : core_fits new_core ≡ true
fits-new = refl

-- every sample keeps the core within its ranges
pub fits-step : (c : Core) (b : ℕ) → core_fits c ≡ true → b < 2 → core_fits (stepped c b).core ≡ true
fits-step c b e bit =
    let q = quiet_after c.quiet b in
    moved-fits c.frame (move_at c.place c.frame b q) b q bit (quiet-lt c.quiet b)
    (frame_in c.frame (true_and (ltb c.quiet (idle + 1) && place_fits c.place) (frame_fits c.frame) e).1)
    (move_fits c.place c.frame b q)
