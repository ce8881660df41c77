-- The loop: what is left to seek gives the same answer, and every step keeps the core within its ranges.
use Rattle.std.proofs.Common.{◌≡◌, true, length, drop}
use Rattle.wire.specs.Numbers.{room}
use Rattle.line.specs.Ranges.{core_fits}
use Rattle.listener.specs.Listener.{seek}
use Rattle.listener.proofs.Loops.{with}
use Rattle.listener.proofs.listeners.Listener.seek.Given as goal

abbrev pub invariant-loop-at : goal.invariant-loop-at
invariant-loop-at l =
    (length l.bytes ≡ room)
    × (core_fits l.core ≡ true)
    × (seek (with l.core l.bytes) l.at (drop l.at l.capture) ≡ seek l.fn.self l.fn.from (drop l.fn.from l.capture))
