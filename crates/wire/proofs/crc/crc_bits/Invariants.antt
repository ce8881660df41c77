-- The loop counts down the bits: what is left of them takes the register to where all of them would.
use Rattle.std.proofs.Common.{◌≡◌}
use Rattle.wire.specs.Bits.{bits}
use Rattle.wire.specs.Crc.{crc_from}
use Rattle.wire.specs.Numbers.{crc_width, crc_generator}
use Rattle.wire.proofs.crc.crc_bits.Given as goal

abbrev pub invariant-loop-left : goal.invariant-loop-left
invariant-loop-left l =
    crc_from crc_width crc_generator l.c (bits l.left l.value) ≡ crc_from crc_width crc_generator l.fn.register (bits l.fn.width l.value)
