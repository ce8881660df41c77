-- Each turn goes on behind the sample that was answered, and none is answered twice.
use Rattle.std.proofs.Common.{◌≤◌, ap, arith}
use Rattle.listener.specs.declared.answers.Found.{Found}
use Rattle.listener.specs.ListenerLaws.{found_from}
use Rattle.hear.proofs.hear.Goals as goal

pub loop-at-smaller-then-at-samples : goal.loop-at-smaller-then-at-samples
loop-at-smaller-then-at-samples g c =
    let on : c.loop-at.at ≤ c.next-found.result.at =
    omega (arith, found_from c.loop-at.listener c.args.samples.now c.loop-at.at, ap (λ (f : Found). f.at) c.next-found.ensures) in
    omega arith
