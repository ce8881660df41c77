-- A frame that is refused is answered so, by a law of `Answers`; one that is not, as it is where nothing is marked.
use Rattle.std.proofs.Common.{sym, ◌∙◌}
use Rattle.std.proofs.lemmas.Result.{err_from_is_err_and}
use Rattle.refusals.specs.RefusalLaws.{number-some}
use Rattle.refusals.specs.RefusalsLaws.{taken_unmarked, taken_not_barred}
use Rattle.writer.specs.WriterLaws.{not_barred_alike}
use Rattle.writer.proofs.Answers.{answer_frame}
use Rattle.writer.proofs.capture.write.Goals as goal

pub returns-in_err-frame_refusal : goal.returns-in_err-frame_refusal
returns-in_err-frame_refusal c =
    let p = err_from_is_err_and c.from_residual.result c.from_residual.ensures.1 in
    rw (p.1, p.2) (answer_frame _ _ _ _ _ c.in_err-frame_refusal.ensures (number-some _))

pub place-requires : goal.place-requires
place-requires c = taken_unmarked _ _ (sym c.in_ok-frame_refusal.ensures)

pub returns : goal.returns
returns c =
    c.place.ensures
    ∙ sym (not_barred_alike _ _ c.args.capture.now c.args.start (taken_not_barred _ _ (sym c.in_ok-frame_refusal.ensures)))
