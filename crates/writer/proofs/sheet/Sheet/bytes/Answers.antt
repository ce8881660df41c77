-- The loop counts up the bytes: what is left of them takes the sheet to where all of them would.
use Rattle.writer.proofs.Loops.{bytes_turn, bytes_end}
use Rattle.writer.proofs.sheet.Sheet.bytes.Goals as goal

pub loop-byte-preserved : goal.loop-byte-preserved
loop-byte-preserved c = search (bytes_turn)

pub returns : goal.returns
returns c = search (bytes_end)
