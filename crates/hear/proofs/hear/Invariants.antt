-- Each turn goes on behind the sample that was answered, so the loop ends.
use Rattle.std.proofs.Common.{length, ◌-◌}
use Rattle.hear.proofs.hear.Given as goal

abbrev pub decreases-loop-at : goal.decreases-loop-at
decreases-loop-at g l = length l.samples - l.at
