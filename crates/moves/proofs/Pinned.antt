-- Each public contract pins its result down, since each is an equation. (`Display` has std's contract, which fixes what is printed where
-- printing succeeds: docs/PROMISES.md.)
use Rattle.proving.specs.Pinning.{Pinned, one}
use Rattle.moves.proofs.moves as moves
use Rattle.moves.proofs.places.Place as place

pub record AllPinned : Type 0 where
  pub fits : Pinned 0 place.fits.Kinds.ps place.fits.Kinds.r place.fits.Reads.Learnt
  pub quiet_after : Pinned 0 moves.quiet_after.Kinds.ps moves.quiet_after.Kinds.r moves.quiet_after.Reads.Learnt
  pub when_waiting : Pinned 0 moves.when_waiting.Kinds.ps moves.when_waiting.Kinds.r moves.when_waiting.Reads.Learnt
  pub when_ready : Pinned 0 moves.when_ready.Kinds.ps moves.when_ready.Kinds.r moves.when_ready.Reads.Learnt
  pub when_stuffed : Pinned 0 moves.when_stuffed.Kinds.ps moves.when_stuffed.Kinds.r moves.when_stuffed.Reads.Learnt
  pub when_ack_delimiter : Pinned 0 moves.when_ack_delimiter.Kinds.ps moves.when_ack_delimiter.Kinds.r moves.when_ack_delimiter.Reads.Learnt
  pub when_end_of_frame : Pinned 0 moves.when_end_of_frame.Kinds.ps moves.when_end_of_frame.Kinds.r moves.when_end_of_frame.Reads.Learnt
  pub when_intermission : Pinned 0 moves.when_intermission.Kinds.ps moves.when_intermission.Kinds.r moves.when_intermission.Reads.Learnt

pub pinned : AllPinned
pinned = search one
