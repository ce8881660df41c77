-- THE PROMISES ARE KEPT.
use Rattle.claims.specs.Promises.{Promises}
use Rattle.claims.proofs.WriterKept.{writer_kept}
use Rattle.claims.proofs.ListenerKept.{listener_kept}
use Rattle.claims.proofs.LedgerKept.{ledger_kept}
use Rattle.claims.proofs.Samples.{samples_hold}

pub kept : Promises
kept = record { writer = writer_kept; listener = listener_kept; ledger = ledger_kept; samples = samples_hold }
