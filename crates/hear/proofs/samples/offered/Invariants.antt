-- The loop: what stands in front, and what is left, offer together what all of it offers.
use Rattle.std.proofs.Common.{◌≡◌, ◌≤◌, ◌++◌, take, drop}
use Rattle.hear.specs.Samples.{offered_of}
use Rattle.hear.proofs.samples.offered.Given as goal

abbrev pub invariant-loop-i : goal.invariant-loop-i
invariant-loop-i l = record {
  behind : l.n ≤ l.i;
  offers : take l.n l.piece ++ offered_of (drop l.i l.piece) ≡ offered_of l.fn.piece;
}
