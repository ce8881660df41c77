-- Each public contract pins its result down, since each is an equation.
use Rattle.proving.specs.Pinning.{Pinned, one}
use Rattle.wire.proofs.bits as bits
use Rattle.wire.proofs.crc as crc
use Rattle.wire.proofs.frames as frames
use Rattle.wire.proofs.runs.Run as run

pub record AllPinned : Type 0 where
  pub bit_at : Pinned 0 bits.bit_at.Kinds.ps bits.bit_at.Kinds.r bits.bit_at.Reads.Learnt
  pub crc_bit : Pinned 0 crc.crc_bit.Kinds.ps crc.crc_bit.Kinds.r crc.crc_bit.Reads.Learnt
  pub crc_bits : Pinned 0 crc.crc_bits.Kinds.ps crc.crc_bits.Kinds.r crc.crc_bits.Reads.Learnt
  pub carried : Pinned 0 frames.carried.Kinds.ps frames.carried.Kinds.r frames.carried.Reads.Learnt
  pub none : Pinned 0 run.none.Kinds.ps run.none.Kinds.r run.none.Reads.Learnt
  pub ran : Pinned 0 run.ran.Kinds.ps run.ran.Kinds.r run.ran.Reads.Learnt
  pub due : Pinned 0 run.due.Kinds.ps run.due.Kinds.r run.due.Reads.Learnt
  pub hear : Pinned 0 run.hear.Kinds.ps run.hear.Kinds.r run.hear.Reads.Learnt

pub pinned : AllPinned
pinned = search one
