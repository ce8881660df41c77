-- Laws of the ranges: the test as facts on numbers, and that no event leads out of them.
use Rattle.std.specs.Prelude.{ℕ, ◌+◌, ◌≤◌, ◌<◌, ◌≡◌, refl, Bool, true, false, not, ◌&&◌, ◌||◌, cond, leb, eqb, Result, Ok, Err}
use Rattle.std.proofs.Common.{arith, ⊎_elim, true≢false, lt-ltb, le-ltb, le-leb, eq-eqb, leb-true, eqb-true}
use Rattle.std.proofs.lemmas.Bool.{false≢true}
use Rattle.proving.specs.Cases.{lt_or_le, either}
use Rattle.proving.specs.Pinning.{found_again}
use Rattle.counts.specs.Numbers.{off_above, receive_held, most_transmit}
use Rattle.counts.specs.Counts.{off}
use Rattle.ledger.specs.declared.ledger.Ledger.{Ledger}
use Rattle.ledger.specs.declared.ledger.OutOfRange.{OutOfRange}
use Rattle.ledger.specs.declared.event.Event.{Event}
use Rattle.ledger.specs.Numbers.{recovery_groups, most_groups}
use Rattle.ledger.specs.Rules.{ledger, new, is_off, is_group, is_ask, one_more, waiting, counting, next}
use Rattle.ledger.specs.RulesLaws.{next_on, next-off, change-le}
use Rattle.ledger.specs.Answer.{in_range, Ledgered, told}

each : (a b c d e : Bool) → (a && b && c && d && e) ≡ true → (a ≡ true) × (b ≡ true) × (c ≡ true) × (d ≡ true) × (e ≡ true)
each true true true true e h = (refl, refl, refl, refl, h)
each true true true false e h = absurd (false≢true h)
each true true false d e h = absurd (false≢true h)
each true false c d e h = absurd (false≢true h)
each false b c d e h = absurd (false≢true h)

-- the two tests on the request, as facts

off_or_unasked : (t : ℕ) (a : Bool) → (t ≤ off_above → a ≡ false) → (off t || not a) ≡ true
off_or_unasked t a h = ⊎_elim (λ o. rw (lt-ltb off_above t o)) (λ o. rw (le-ltb off_above t o, h o)) (lt_or_le off_above t)

asked_or_none : (a : Bool) (g : ℕ) → (a ≡ false → g ≡ 0) → (a || eqb g 0) ≡ true
asked_or_none true g h = refl
asked_or_none false g h = eq-eqb g 0 (h refl)

not_true : (a : Bool) → not a ≡ true → a ≡ false
not_true true h = absurd (false≢true h)
not_true false h = refl

-- the ranges as facts

pub record Ranged (l : Ledger) : Type 0 where
  pub transmit_le : l.transmit.0 ≤ most_transmit
  pub receive_le : l.receive.0 ≤ receive_held
  pub groups_le : l.groups ≤ most_groups
  pub unasked_on : l.transmit.0 ≤ off_above → l.asked ≡ false
  pub none_unasked : l.asked ≡ false → l.groups ≡ 0

pub in_range_lem : (l : Ledger) → Ranged l → in_range l ≡ true
unfolding in_range
in_range_lem l h =
    rw (
      le-leb _ _ h.transmit_le,
      le-leb _ _ h.receive_le,
      le-leb _ _ h.groups_le,
      off_or_unasked l.transmit.0 l.asked h.unasked_on,
      asked_or_none l.asked l.groups h.none_unasked,
    )

pub ranged : (l : Ledger) → in_range l ≡ true → Ranged l
unfolding in_range
ranged l h =
    let (t, r, g, o, a) =
    each
    (leb l.transmit.0 most_transmit)
    (leb l.receive.0 receive_held)
    (leb l.groups most_groups)
    (is_off l || not l.asked)
    (l.asked || eqb l.groups 0)
    h in
    record {
      transmit_le = leb-true _ _ t;
      receive_le = leb-true _ _ r;
      groups_le = leb-true _ _ g;
      unasked_on = λ p. not_true l.asked (rw (le-ltb off_above l.transmit.0 p) at o);
      none_unasked = λ p. eqb-true _ _ (rw p at a);
    }

-- no event leads out of them

new_ranged : Ranged new
new_ranged = record {
  transmit_le = omega arith;
  receive_le = omega arith;
  groups_le = omega arith;
  unasked_on = λ _. refl;
  none_unasked = λ _. refl;
}

module _ (l : Ledger) (o : off_above < l.transmit.0) (h : Ranged l) where
  -- where a recovery was asked for, any number of groups will do
  asked_ranged : (g : ℕ) → g ≤ most_groups → Ranged (ledger l.transmit.0 l.receive.0 g true)
  asked_ranged g few = record {
    transmit_le = h.transmit_le;
    receive_le = h.receive_le;
    groups_le = few;
    unasked_on = λ on. absurd (omega arith);
    none_unasked = λ u. absurd (true≢false u);
  }

  one_more_ranged : l.asked ≡ true → Ranged (one_more l)
  one_more_ranged a =
      ⊎_elim
      (λ g. rw (lt-ltb (l.groups + 1) recovery_groups g, a) (asked_ranged (l.groups + 1) (omega arith)))
      (λ g. rw (le-ltb (l.groups + 1) recovery_groups g) new_ranged)
      (lt_or_le (l.groups + 1) recovery_groups)

  waiting_ranged : (e : Event) → Ranged (waiting e l)
  unfolding waiting
  waiting_ranged e =
      either Ranged (is_group e)
      (λ _. either Ranged l.asked one_more_ranged (λ _. h))
      (λ _. either Ranged (is_ask e) (λ _. asked_ranged l.groups h.groups_le) (λ _. h))

counting_ranged : (e : Event) (l : Ledger) → l.transmit.0 ≤ off_above → Ranged l → Ranged (counting e l)
counting_ranged e l o h =
    let (t, r) = change-le e l.transmit.0 l.receive.0 o h.receive_le in
    record {
      transmit_le = t;
      receive_le = r;
      groups_le = h.groups_le;
      unasked_on = λ _. h.unasked_on o;
      none_unasked = h.none_unasked;
    }

next_ranged : (e : Event) (l : Ledger) → Ranged l → Ranged (next e l)
next_ranged e l h =
    ⊎_elim
    (λ o. rw (next-off e l o) (waiting_ranged l o h e))
    (λ o. rw (next_on e l o) (counting_ranged e l o h))
    (lt_or_le off_above l.transmit.0)

pub new-in_range : in_range new ≡ true
new-in_range = in_range_lem new new_ranged

pub next-in_range : (e : Event) (l : Ledger) → in_range l ≡ true → in_range (next e l) ≡ true
next-in_range e l h = in_range_lem (next e l) (next_ranged e l (ranged l h))

-- no two answers of a call are said alike: each is the one that its words stand for

abbrev answer_of : Ledgered → Result Ledger OutOfRange
answer_of a = cond (eqb a.refusal 0) (Ok a.ledger) (Err (record { 0 = a.ledger }))

answered : (r : Result Ledger OutOfRange) → answer_of (told r) ≡ r
answered (Ok l) = refl
answered (Err x) = refl

pub told-injective : {q r : Result Ledger OutOfRange} → told q ≡ told r → q ≡ r
told-injective = found_again told answer_of answered
