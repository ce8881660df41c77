-- Each public contract of the core pins its result down.
use Rattle.proving.specs.Pinning.{Pinned, one}
use Rattle.line.proofs.cores.Core as core

pub record AllPinned : Type 0 where
  pub core_new : Pinned 0 core.new.Kinds.ps core.new.Kinds.r core.new.Reads.Learnt
  pub core_fits_lem : Pinned 0 core.fits.Kinds.ps core.fits.Kinds.r core.fits.Reads.Learnt
  pub core_step : Pinned 0 core.step.Kinds.ps core.step.Kinds.r core.step.Reads.Learnt

pub pinned : AllPinned
pinned = search one
