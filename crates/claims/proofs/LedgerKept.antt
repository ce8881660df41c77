-- The ledger's promises are kept: each history is split at its recoveries, and the ledger over either kind of split is known.
use Rattle.std.proofs.Common.{ℕ, ◌≤◌, ◌<◌, arith, ◌≡◌, refl, ◌↔◌, ⊎_elim, Bool, true, false, cond, List, [], ◌∷◌, ◌++◌, length, replicate, lt-ltb, le-ltb}
use Rattle.std.proofs.Math.Seq.{take-length}
use Rattle.counts.specs.Numbers.{off_above}
use Rattle.counts.specs.Counts.{is_passive}
use Rattle.ledger.specs.declared.state.State.{State}
use Rattle.ledger.specs.declared.state.State.TheVariants.{Active, Passive, BusOff}
use Rattle.ledger.specs.declared.event.Event.{Event}
use Rattle.ledger.specs.declared.event.Event.TheVariants.{ErrorFlagSent, ElevenRecessive, Ask}
use Rattle.ledger.specs.Numbers.{recovery_groups}
use Rattle.ledger.specs.Rules.{new, change, waiting, next, state_of, ledger}
use Rattle.ledger.specs.RulesLaws.{next_on, next-off}
use Rattle.ledger.specs.declared.ledger.Ledger.{Ledger}
use Rattle.ledger.specs.Answer.{in_range, Ledgered, accepted, after}
use Rattle.ledger.specs.AnswerLaws.{new-in_range}
use Rattle.ledger.specs.History.{run, after_all}
use Rattle.ledger.specs.HistoryLaws.{run-append, run-in_range}
use Rattle.claims.specs.LedgerHistory.{T_of, R_of, groups, asked, since_asked, NotPassed, Passed}
use Rattle.claims.specs.Promises.{LedgerPromise, LedgerPromises, standing}
use Rattle.proving.specs.Cases.{either}
use Rattle.claims.proofs.LedgerAsked.{since_unasked}
use Rattle.claims.proofs.LedgerRun.{run_waits, run_as_new, run_not_passed, run_passed}
use Rattle.claims.proofs.LedgerSplit.{split, still_passed, recovered}

-- no call is refused

answered : (h : List Event) → after_all h new ≡ accepted (run h new)
unfolding after_all
answered h = rw new-in_range

chained : (h : List Event) (e : Event) → after e (run h new) ≡ accepted (run (h ++ (e ∷ [])) new)
unfolding after run
chained h e = rw (run-in_range h new new-in_range, run-append h (e ∷ []) new)

-- bus-off

not_off : (b : Bool) → cond b Passive Active ≡ BusOff → ⊥
not_off true h = let z : ◌≡◌ {A = ℕ} 0 1 = cc in omega arith
not_off false h = let z : ◌≡◌ {A = ℕ} 0 1 = cc in omega arith

on_not_off : (t r g : ℕ) (a : Bool) → t ≤ off_above → state_of (ledger t r g a) ≡ BusOff → ⊥
on_not_off t r g a h o = not_off (is_passive t r) (simp (le-ltb off_above t h) at o)

not_passed-le : (h : List Event) (n : NotPassed h) → T_of n.since ≤ off_above
not_passed-le h n = rw (take-length n.since) at (n.calm (length n.since) (omega arith))

not_passed_on : (h : List Event) → NotPassed h → state_of (run h new) ≡ BusOff → ⊥
not_passed_on h n o = on_not_off (T_of n.since) (R_of n.since) 0 false (not_passed-le h n) (rw (run_not_passed h n) at o)

passed_off : (h : List Event) → Passed h → state_of (run h new) ≡ BusOff
passed_off h p = rw (run_passed h p, lt-ltb off_above (T_of p.since) p.passes.1)

off_exactly : (h : List Event) → (state_of (run h new) ≡ BusOff) ↔ Passed h
off_exactly h = (λ o. ⊎_elim (λ n. absurd (not_passed_on h n o)) (λ p. p) (split h), passed_off h)

thirty_two_flags : Passed (replicate 32 ErrorFlagSent)
unfolding run next change
thirty_two_flags = (off_exactly (replicate 32 ErrorFlagSent)).0 refl

-- refusal 7

seven : (e : Event) (l : Ledger) → ((after e l).refusal ≡ 7) ↔ (in_range l ≡ false)
unfolding after
seven e l = (either (λ (a : Ledgered). a.refusal ≡ 7 → in_range l ≡ false) (in_range l) (λ _ z. absurd (omega arith)) (λ t _. t), λ t. rw t)

unchanged : (e : Event) (l : Ledger) → (after e l).refusal ≡ 7 → (after e l).ledger ≡ l
unfolding after
unchanged e l = either (λ (a : Ledgered). a.refusal ≡ 7 → a.ledger ≡ l) (in_range l) (λ _ z. absurd (omega arith)) (λ _ _. refl)

-- the asking

stood : (h : List Event) → standing h ≡ record { refusal = 0; ledger = run h new; state = state_of (run h new) }
stood h = rw (answered h)

same_standing : (h k : List Event) → run h new ≡ run k new → standing h ≡ standing k
same_standing h k same = rw (stood h, stood k, same)

-- where asking changes nothing
asked_in_vain : (h : List Event) (l : Ledger) → run h new ≡ l → next Ask l ≡ l → standing (h ++ (Ask ∷ [])) ≡ standing h
unfolding run
asked_in_vain h l at same = same_standing (h ++ (Ask ∷ [])) h (rw (run-append h (Ask ∷ []) new, at) same)

module _ (h : List Event) (p : Passed h) where
  waited : (k : List Event) → asked p.later ≡ false → groups (since_asked k) < recovery_groups →
      run (h ++ k) new ≡ ledger (T_of p.since) (R_of p.since) (groups (since_asked k)) (asked k)
  waited k u few =
      rw (run-append h k new, run_passed h p, since_unasked p.later u, u)
      (run_waits (T_of p.since) (R_of p.since) p.passes.1 k few)

  off_until_asked : (k : List Event) → asked p.later ≡ false → asked k ≡ false → standing (h ++ k) ≡ standing h
  off_until_asked k u v =
      same_standing (h ++ k) h
      (rw (waited k u (rw (since_unasked k v) (omega arith)), run_passed h p, since_unasked k v, v, since_unasked p.later u, u))

  asked_again : asked p.later ≡ true → standing (h ++ (Ask ∷ [])) ≡ standing h
  unfolding waiting
  asked_again a =
      let l = ledger (T_of p.since) (R_of p.since) (groups (since_asked p.later)) true in
      asked_in_vain h l (rw a at (run_passed h p)) (next-off Ask l p.passes.1)

asked_when_on : (h : List Event) → NotPassed h → standing (h ++ (Ask ∷ [])) ≡ standing h
unfolding change
asked_when_on h n =
    let l = ledger (T_of n.since) (R_of n.since) 0 false in
    asked_in_vain h l (run_not_passed h n) (next_on Ask l (not_passed-le h n))

-- the promises

promise : (h : List Event) → LedgerPromise h (standing h)
promise h = rw (answered h) (record {
  not_refused = refl;
  counted = run_not_passed h;
  stopped = run_passed h;
  bus_off = off_exactly h;
  state = refl;
})

-- how a station stands that was new, from the number and the ledger that the calls for a history answer
pub stands : (h : List Event) (a : Ledgered) (l : Ledger) (s : State) (n : ℕ × Ledger) → n ≡ (a.refusal, a.ledger) → l ≡ new → a ≡ after_all h l
    → s ≡ state_of n.1 → LedgerPromise h (record { refusal = n.0; ledger = n.1; state = s })
stands h a l s n is at e t = rw (t, is, e, at) (promise h)

pub ledger_kept : LedgerPromises
ledger_kept = record {
  seven = seven;
  unchanged = unchanged;
  any_history = promise;
  either = split;
  off_happens = thirty_two_flags;
  chained = λ h e. rw (answered h, answered (h ++ (e ∷ []))) (chained h e);
  group_127 = λ h p seen. rw (answered (h ++ (ElevenRecessive ∷ []))) (passed_off (h ++ (ElevenRecessive ∷ [])) (still_passed h ElevenRecessive p (omega arith)));
  group_128 = λ h p seen. rw (answered (h ++ (ElevenRecessive ∷ [])), run_as_new (recovered h ElevenRecessive p refl (omega (arith, seen))));
  off_until_asked = λ h k p. off_until_asked h p k;
  none_before = λ h p u. rw (answered (h ++ (Ask ∷ []))) (waited h p (Ask ∷ []) u (omega arith));
  asked_again = asked_again;
  asked_when_on = asked_when_on;
}
