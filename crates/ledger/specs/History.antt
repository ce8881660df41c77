-- Histories: events one after the other, the oldest first, and the numbers by which they are lent.
use Rattle.std.specs.Prelude.{ℕ, ◌≡◌, cond, List, [], ◌∷◌, ◌++◌, take, drop, Result, MatchResult}
use Rattle.ledger.specs.declared.ledger.Ledger.{Ledger}
use Rattle.ledger.specs.declared.event.Event.{Event}
use Rattle.ledger.specs.declared.event.NoEvent.{NoEvent}
use Rattle.ledger.specs.declared.event.Event.TheVariants.{ErrorSeen, DominantAfterFlag, FlagErrorAsTransmitter, FlagErrorAsReceiver, ErrorFlagSent, AcknowledgeError, StuffBitOverwritten, SentWell, ReceivedWell, ElevenRecessive, Ask}
use Rattle.ledger.specs.Rules.{next}
use Rattle.ledger.specs.Answer.{in_range, Ledgered, accepted, refused}

-- the ledger after a history
unfoldable pub run : List Event → Ledger → Ledger
run [] l = l
run (e ∷ h) l = run h (next e l)

-- what the calls for a history answer together
unfoldable pub after_all : List Event → Ledger → Ledgered
after_all h l = cond (in_range l) (accepted (run h l)) (refused l)

-- the events in 01's order, from number 0 to 9; asking is number 10 (W-210)
abbrev pub in_order : List Event
in_order =
    ErrorSeen ∷ DominantAfterFlag ∷ FlagErrorAsTransmitter ∷ FlagErrorAsReceiver ∷ ErrorFlagSent ∷
    AcknowledgeError ∷ StuffBitOverwritten ∷ SentWell ∷ ReceivedWell ∷ ElevenRecessive ∷ Ask ∷ []

-- the event that a number stands for; a number above 10 is no event
unfoldable pub event_of : ℕ → List Event
event_of n = take 1 (drop n in_order)

-- the event, or the number where it stands for none
abbrev pub StandsFor : ℕ → Result Event NoEvent → Type 0
StandsFor n r = MatchResult r (λ e. event_of n ≡ e ∷ []) (λ x. (x.0 ≡ n) × (event_of n ≡ []))

-- the ledger after one number
unfoldable pub numbered : Ledger → ℕ → Ledger
numbered l n = run (event_of n) l

-- the history that a row of numbers stands for
unfoldable pub events : List ℕ → List Event
events [] = []
events (n ∷ ns) = event_of n ++ events ns
