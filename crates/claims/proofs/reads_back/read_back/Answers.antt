-- Each way out is one law of `HeardBack`. That the frame has eight bytes is no premise: it is what the parameter's type tells at the entry.
use Rattle.std.proofs.Common.{ℕ, get_or, refl, rules}
use mir.Syntax.{w8}
use mir.Val.{Fits}
use Rattle.refusals.specs.RefusalLaws.{number-some}
use Rattle.claims.specs.ReadBack.{EightBytes}
use Rattle.claims.proofs.HeardBack.{back_handed, back_refused}
use Rattle.claims.proofs.reads_back.read_back.Goals as goal

pub returns-in-Ok : goal.returns-in-Ok
returns-in-Ok c =
    let byte : (i : ℕ) → Fits w8 (get_or c.args.frame.bytes i 0) = λ i. search rules in
    let eight : EightBytes c.args.frame = record { size = search rules; byte = λ i. (byte i).fits } in
    back_handed _ _ _ _ _ _ c.in-Ok.ensures refl eight c.ready_listener-l.ensures c.next.ensures

pub returns-in-Err : goal.returns-in-Err
returns-in-Err c =
    let told = rw c.number.ensures at c.refused.ensures in
    back_refused _ _ _ _ _ _ c.in-Err.ensures (number-some _) c.ready_listener-l.ensures told c.found.ensures
