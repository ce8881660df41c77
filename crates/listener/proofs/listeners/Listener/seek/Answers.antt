-- Each way out of the loop is the answer, and one turn more leaves the same to seek.
use Rattle.std.proofs.Common.{rules}
use Rattle.listener.proofs.Loops.{seek-out, seek-turn, fits-turn}
use Rattle.listener.proofs.listeners.Listener.seek.Goals as goal

pub returns-in_default : goal.returns-in_default
returns-in_default c = search (seek-out)

pub loop-at-preserved : goal.loop-at-preserved
loop-at-preserved c = (search rules, search (fits-turn), search (seek-turn))
