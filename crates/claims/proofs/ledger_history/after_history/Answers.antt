-- The station after a lent history stands as promised, whichever answer the code looks at: `stands`, of what its calls answer.
use Rattle.ledger.specs.Answer.{accepted, refused}
use Rattle.claims.proofs.LedgerKept.{stands}
use Rattle.claims.proofs.ledger_history.after_history.Goals as goal
use Rattle.claims.proofs.ledger_history.after_history.Goals.{in-Ok, in-Err}

pub returns : goal.returns
returns c =
    let n = c.match-replay.refusal in
    elim c.match-replay.branch [
      | in-Ok w ↦ stands _ (accepted w.in-Ok.ledger) _ _ n w.refusal-is c.new.ensures w.in-Ok.ensures c.state.ensures
      | in-Err w ↦
          stands _ (refused w.in-Err.refused.0) _ _ n (rw w.number.ensures at w.refusal-is) c.new.ensures w.in-Err.ensures c.state.ensures
    ]
