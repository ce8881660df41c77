-- The loop counts down the bits: what is left of them takes the page to where all of them would.
use Rattle.writer.proofs.Loops.{bits-turn, bits-end}
use Rattle.writer.proofs.page.Page.field.Goals as goal

pub loop-left-preserved : goal.loop-left-preserved
loop-left-preserved c = search (bits-turn)

pub returns : goal.returns
returns c = search (bits-end)
