-- Laws of the rules: what they come to on either side of bus-off, and how far one event moves the counts.
use Rattle.std.specs.Prelude.{ℕ, ◌≤◌, ◌<◌, ◌≡◌, ltb}
use Rattle.std.proofs.Common.{arith, lt-ltb, le-ltb}
use Rattle.proving.specs.Cases.{either}
use Rattle.counts.specs.Numbers.{off_above, receive_held, received_down_to, most_transmit}
use Rattle.counts.specs.Counts.{is_passive}
use Rattle.ledger.specs.declared.ledger.Ledger.{Ledger}
use Rattle.ledger.specs.declared.event.Event.{Event}
use Rattle.ledger.specs.declared.event.Event.TheVariants.{ErrorSeen, DominantAfterFlag, FlagErrorAsTransmitter, FlagErrorAsReceiver, ErrorFlagSent, AcknowledgeError, StuffBitOverwritten, SentWell, ReceivedWell, ElevenRecessive, Ask}
use Rattle.ledger.specs.Rules.{change, waiting, counting, next}

-- bus-off or not

module _ (e : Event) (l : Ledger) where
  pub next_on : l.transmit.0 ≤ off_above → next e l ≡ counting e l
  unfolding next
  next_on h = simp (le-ltb off_above _ h)

  pub next-off : off_above < l.transmit.0 → next e l ≡ waiting e l
  unfolding next
  next-off h = simp (lt-ltb off_above _ h)

-- the counts after one event

pub change-le : (e : Event) (t r : ℕ) → t ≤ off_above → r ≤ receive_held → ((change e t r).T ≤ most_transmit) × ((change e t r).R ≤ receive_held)
unfolding change
change-le ErrorSeen t r p q = omega arith
change-le DominantAfterFlag t r p q = omega arith
change-le FlagErrorAsTransmitter t r p q = omega arith
change-le FlagErrorAsReceiver t r p q = omega arith
change-le ErrorFlagSent t r p q = omega arith
change-le AcknowledgeError t r p q = (either (λ (n : ℕ). n ≤ most_transmit) (is_passive t r) (λ _. omega arith) (λ _. omega arith), q)
change-le StuffBitOverwritten t r p q = omega arith
change-le SentWell t r p q = omega arith
change-le ReceivedWell t r p q = (omega arith, either (λ (n : ℕ). n ≤ receive_held) (ltb received_down_to r) (λ _. omega arith) (λ _. omega arith))
change-le ElevenRecessive t r p q = omega arith
change-le Ask t r p q = omega arith
