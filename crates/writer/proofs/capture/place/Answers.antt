-- Each way out is one law of `Answers`, at what the test of the place and `draw` ensure.
use Rattle.std.proofs.Common.{refl}
use Rattle.std.proofs.lemmas.Result.{err_from_is_err_and}
use Rattle.refusals.specs.RefusalLaws.{number-some}
use Rattle.writer.proofs.Answers.{answer_misplaced, answer-placed, fits_page}
use Rattle.writer.proofs.capture.place.Goals as goal

pub returns-in_err-place_refusal : goal.returns-in_err-place_refusal
returns-in_err-place_refusal c =
    let p = err_from_is_err_and c.from_residual.result c.from_residual.ensures.1 in
    rw (p.1, p.2) (answer_misplaced _ _ _ _ c.requires _ c.draw.ensures _ c.in_err-place_refusal.ensures (number-some _))

pub shared_ref_as_front-copy_front : goal.shared_ref_as_front-copy_front
shared_ref_as_front-copy_front c = fits_page _ _ c.args.capture.now c.args.start c.requires _ c.draw.ensures

pub returns : goal.returns
returns c =
    answer-placed _ _ c.args.capture.now c.args.start c.requires _ c.draw.ensures _ c.in_ok-place_refusal.ensures _ refl c.copy_front.ensures
