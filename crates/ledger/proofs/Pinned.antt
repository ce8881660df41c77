-- Each public contract pins its result down: an equation as it is, the calls by 01's words, in which no two answers are said alike, and the
-- event of a number by cases. (`Display` has std's contract, which fixes what is printed where printing succeeds: docs/PROMISES.md.)
use Rattle.std.proofs.Common.{ℕ, ◌≡◌, ap, sym, ◌∙◌}
use Rattle.std.specs.Prelude.{Result, Ok, Err}
use borrow.Fn.Kinds.{Out}
use Rattle.proving.specs.Pinning.{Pinned, one}
use Rattle.ledger.specs.declared.ledger.Ledger.{Ledger}
use Rattle.ledger.specs.declared.ledger.OutOfRange.{OutOfRange}
use Rattle.ledger.specs.Answer.{Ledgered, told}
use Rattle.ledger.specs.AnswerLaws.{told-injective}
use Rattle.ledger.specs.declared.event.Event.{Event}
use Rattle.ledger.specs.declared.event.NoEvent.{NoEvent}
use Rattle.ledger.specs.History.{StandsFor}
use Rattle.ledger.proofs.ledger.Ledger as call
use Rattle.ledger.proofs.event.EventTryFromU8 as event

one_told : {v : Ledgered} {q r : Result Ledger OutOfRange} → told q ≡ v → told r ≡ v → q ≡ r
one_told p q = told-injective (p ∙ sym q)

one_event : (n : ℕ) (q r : Result Event NoEvent) → StandsFor n q → StandsFor n r → q ≡ r
one_event n (Ok e) (Ok f) p q = cc
one_event n (Ok e) (Err y) p q = cc
one_event n (Err x) (Ok f) p q = cc
one_event n (Err x) (Err y) p q = ap (λ (m : ℕ). Err (record { 0 = m })) (p.0 ∙ sym q.0)

-- the same for the calls for an event, which all take a ledger and answer alike
abbrev pub PinnedEvent : Out 0 call.error_seen.Kinds.ps call.error_seen.Kinds.r → Type 0
PinnedEvent = Pinned 0 call.error_seen.Kinds.ps call.error_seen.Kinds.r

pub record AllPinned : Type 0 where
  pub new : Pinned 0 call.new.Kinds.ps call.new.Kinds.r call.new.Reads.Learnt
  pub state : Pinned 0 call.state.Kinds.ps call.state.Kinds.r call.state.Reads.Learnt
  pub step : Pinned 0 call.step.Kinds.ps call.step.Kinds.r call.step.Reads.Learnt
  pub replay : Pinned 1 call.replay.Kinds.ps call.replay.Kinds.r call.replay.Reads.Learnt
  pub error_seen : PinnedEvent call.error_seen.Reads.Learnt
  pub dominant_after_flag : PinnedEvent call.dominant_after_flag.Reads.Learnt
  pub flag_error_as_transmitter : PinnedEvent call.flag_error_as_transmitter.Reads.Learnt
  pub flag_error_as_receiver : PinnedEvent call.flag_error_as_receiver.Reads.Learnt
  pub error_flag_sent : PinnedEvent call.error_flag_sent.Reads.Learnt
  pub acknowledge_error : PinnedEvent call.acknowledge_error.Reads.Learnt
  pub stuff_bit_overwritten : PinnedEvent call.stuff_bit_overwritten.Reads.Learnt
  pub sent_well : PinnedEvent call.sent_well.Reads.Learnt
  pub received_well : PinnedEvent call.received_well.Reads.Learnt
  pub eleven_recessive : PinnedEvent call.eleven_recessive.Reads.Learnt
  pub ask : PinnedEvent call.ask.Reads.Learnt
  pub try_from : Pinned 0 event.try_from.Kinds.ps event.try_from.Kinds.r event.try_from.Reads.Learnt

pub pinned : AllPinned
pinned = search (one, one_told, one_event)
