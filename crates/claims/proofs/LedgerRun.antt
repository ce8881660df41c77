-- The ledger over a history that is split at its recoveries: up to 255 it is what the history works out, then it waits to be asked, and the
-- 128th group since brings it back. By induction over each stretch.
use Rattle.std.proofs.Common.{ℕ, suc, ◌+◌, ◌≤◌, ◌<◌, suc-le-suc, arith, add-zero, zero-add, add_assoc, zero-lt-suc, ◌≡◌, refl, Bool, true, false, cond, ◌||◌, List, [], ◌∷◌, ◌++◌, append_assoc, length, take, lt-ltb, le-ltb}
use Rattle.counts.specs.Numbers.{off_above}
use Rattle.ledger.specs.declared.event.Event.{Event}
use Rattle.ledger.specs.declared.event.Event.TheVariants.{ElevenRecessive}
use Rattle.ledger.specs.Numbers.{recovery_groups}
use Rattle.ledger.specs.Rules.{Counts, counts, ledger, new, change, is_group, is_ask, grouped, asking, waiting}
use Rattle.ledger.specs.RulesLaws.{next_on, next-off}
use Rattle.ledger.specs.History.{run}
use Rattle.ledger.specs.HistoryLaws.{run-append}
use Rattle.claims.specs.LedgerHistory as history
use Rattle.claims.specs.LedgerHistory.{worked, T_of, R_of, group, groups, asked, since_asked, Passes, AsNew, NotPassed, Passed}
use Rattle.claims.proofs.LedgerAsked.{group_no_ask, groups-asked}

-- while T is at most 255

run-counts : (h : List Event) (c : Counts) → ((n : ℕ) → n < length h → (worked c (take n h)).T ≤ off_above) →
    run h (ledger c.T c.R 0 false) ≡ ledger (worked c h).T (worked c h).R 0 false
unfolding run
run-counts [] c calm = refl
run-counts (e ∷ h) c calm =
    rw (next_on e (ledger c.T c.R 0 false) (calm 0 (zero-lt-suc (length h))))
    (run-counts h (change e c.T c.R) (λ n k. calm (suc n) (suc-le-suc k)))

-- once T has passed 255

module _ (t r : ℕ) (off : off_above < t) where
  -- and a recovery was asked for

  seen : (b a : Bool) (g : ℕ) → g + cond b 1 0 < recovery_groups →
      cond b (grouped (ledger t r g true)) (cond a (asking (ledger t r g true)) (ledger t r g true)) ≡ ledger t r (g + cond b 1 0) true
  seen true a g h = rw (lt-ltb (g + 1) recovery_groups (omega arith))
  seen false true g h = rw (add-zero g)
  seen false false g h = rw (add-zero g)

  run-groups : (h : List Event) (g : ℕ) → g + groups h < recovery_groups → run h (ledger t r g true) ≡ ledger t r (g + groups h) true
  unfolding run waiting
  run-groups [] g few = rw (add-zero g)
  run-groups (e ∷ h) g few =
      rw (next-off e (ledger t r g true) off, seen (is_group e) (is_ask e) g (omega arith), ← add_assoc g (group e) (groups h))
      (run-groups h (g + group e) (omega arith))

  -- and nobody has asked yet

  unseen : (b a : Bool) → (b ≡ true → a ≡ false) →
      cond b (grouped (ledger t r 0 false)) (cond a (asking (ledger t r 0 false)) (ledger t r 0 false)) ≡ ledger t r 0 a
  unseen true a h = rw (h refl)
  unseen false true h = refl
  unseen false false h = refl

  pub run_waits : (h : List Event) → groups (since_asked h) < recovery_groups → run h (ledger t r 0 false) ≡ ledger t r (groups (since_asked h)) (asked h)
  unfolding run waiting
  run_waits [] few = refl
  run_waits (e ∷ h) few =
      rw (next-off e (ledger t r 0 false) off, unseen (is_group e) (is_ask e) (group_no_ask e))
      (go (is_ask e) few (run_waits h))
    where
      go : (a : Bool) → groups (cond a h (since_asked h)) < recovery_groups →
          (groups (since_asked h) < recovery_groups → run h (ledger t r 0 false) ≡ ledger t r (groups (since_asked h)) (asked h)) →
          run h (ledger t r 0 a) ≡ ledger t r (groups (cond a h (since_asked h))) (a || asked h)
      go true few rest = rw (← zero-add (groups h)) (run-groups h 0 (omega arith))
      go false few rest = rest few

run_passes : (b c : List Event) → Passes b → groups (since_asked c) < recovery_groups →
    run (b ++ c) new ≡ ledger (T_of b) (R_of b) (groups (since_asked c)) (asked c)
run_passes b c p few = rw (run-append b c new, run-counts b (counts 0 0) p.0) (run_waits (T_of b) (R_of b) p.1 c few)

-- the 128th group

run_back : (b c : List Event) → Passes b → groups (since_asked c) + 1 ≡ recovery_groups → run (b ++ (c ++ (ElevenRecessive ∷ []))) new ≡ new
unfolding run waiting
run_back b c p full =
    rw (
      ← append_assoc b c (ElevenRecessive ∷ []),
      run-append (b ++ c) (ElevenRecessive ∷ []) new,
      run_passes b c p (omega arith),
      next-off ElevenRecessive (ledger (T_of b) (R_of b) (groups (since_asked c)) (asked c)) p.1,
      groups-asked c (omega arith),
      le-ltb (groups (since_asked c) + 1) recovery_groups (omega arith),
    )

pub run_as_new : {a : List Event} → AsNew a → run a new ≡ new
unfolding run
run_as_new history.new = refl
run_as_new (history.recovery a b c f p full) = rw (run-append, run_as_new f) (run_back b c p full)

-- the two kinds of history

pub run_not_passed : (h : List Event) (n : NotPassed h) → run h new ≡ ledger (T_of n.since) (R_of n.since) 0 false
run_not_passed h n =
    rw (n.whole, run-append, run_as_new n.as_new)
    (run-counts n.since (counts 0 0) (λ k m. n.calm k (omega arith)))

pub run_passed : (h : List Event) (p : Passed h) →
    run h new ≡ ledger (T_of p.since) (R_of p.since) (groups (since_asked p.later)) (asked p.later)
run_passed h p =
    rw (p.whole, run-append, run_as_new p.as_new) (run_passes p.since p.later p.passes p.waits)
