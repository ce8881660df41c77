-- The ledger's promise pins down how a station stands: of any history there is one split, and it gives every number.
use Rattle.std.proofs.Common.{◌≡◌, sym, ◌∙◌, ⊎_elim, List}
use Rattle.proving.specs.Pinning.{Pinned}
use Rattle.ledger.specs.declared.event.Event.{Event}
use Rattle.claims.specs.declared.ledger_history.Standing.{Standing}
use Rattle.claims.specs.Promises.{LedgerPromise}
use Rattle.claims.proofs.LedgerSplit.{split}
use Rattle.claims.proofs.ledger_history as call

field_by_field : {s t : Standing} → s.refusal ≡ t.refusal → s.ledger ≡ t.ledger → s.state ≡ t.state → s ≡ t
field_by_field a b c = λ i. record { refusal = a i; ledger = b i; state = c i }

module _ (h : List Event) (s t : Standing) (p : LedgerPromise h s) (q : LedgerPromise h t) where
  same_ledger : s.ledger ≡ t.ledger
  same_ledger =
      ⊎_elim (λ n. p.counted n ∙ sym (q.counted n)) (λ n. p.stopped n ∙ sym (q.stopped n)) (split h)

  same : s ≡ t
  same = field_by_field (p.not_refused ∙ sym q.not_refused) same_ledger (p.state ∙ rw same_ledger (sym q.state))

pub after_history_pinned : Pinned 1 call.after_history.Kinds.ps call.after_history.Kinds.r call.after_history.Reads.Learnt
after_history_pinned κs a x y s t p q = same _ x y p q
