-- What is due is nothing, or a stuff bit.
use Rattle.std.proofs.Common.{◌∙◌}
use Rattle.writer.specs.PagesLaws.{bit_alone, bit_behind}
use Rattle.writer.proofs.page.Page.bit.Goals as goal
use Rattle.writer.proofs.page.Page.bit.Goals.{in-Some, in_default}

pub returns : goal.returns
returns c =
    elim c.match-due.branch [
      | in-Some w ↦ bit_behind _ _ _ _ c.due.ensures _ _ _ w.in-Some.is (w.self-is ∙ w.sample.ensures) c.sample-2.ensures
      | in_default w ↦ bit_alone _ _ _ _ c.due.ensures _ w.in_default.is (cc)
    ]
