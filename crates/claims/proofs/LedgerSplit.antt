-- In every history T has passed 255 since the last recovery, or has not: the history is split anew at each event.
use Rattle.std.proofs.Common.{ℕ, ◌+◌, ◌≤◌, ◌<◌, arith, ◌≡◌, refl, sym, ◌⊎◌, inl, inr, ⊎_elim, Bool, true, false, cond, List, [], ◌∷◌, ◌++◌, append-nil, append_assoc, length, take, length-append, take_all}
use Rattle.std.proofs.Math.Seq.{take-append-le, take-nil}
use Rattle.counts.specs.Numbers.{off_above}
use Rattle.ledger.specs.declared.event.Event.{Event}
use Rattle.ledger.specs.declared.event.Event.TheVariants.{ElevenRecessive}
use Rattle.ledger.specs.Numbers.{recovery_groups}
use Rattle.ledger.specs.Rules.{is_group}
use Rattle.proving.specs.Cases.{lt_or_le}
use Rattle.claims.specs.LedgerHistory.{T_of, group, groups, since_asked, Calm, AsNew, new, recovery, NotPassed, Passed}
use Rattle.claims.proofs.LedgerAsked.{only_eleven, since_more}

-- one event more, by T

before_last : (h : List Event) (e : Event) → Calm h → (n : ℕ) → n < length (h ++ (e ∷ [])) → T_of (take n (h ++ (e ∷ []))) ≤ off_above
before_last h e calm n k =
    let m : n ≤ length h = omega (arith, length-append h (e ∷ [])) in
    rw (take-append-le n h (e ∷ []) m) (calm n m)

calm_more : (h : List Event) (e : Event) → Calm h → T_of (h ++ (e ∷ [])) ≤ off_above → Calm (h ++ (e ∷ []))
calm_more h e calm t n k =
    ⊎_elim (before_last h e calm n) (λ m. rw (take_all n (h ++ (e ∷ [])) m) t) (lt_or_le n (length (h ++ (e ∷ []))))

calm-nil : Calm []
calm-nil n k = rw (take-nil n) (omega arith)

-- one event more, by the groups

last_group : (b : Bool) (g : ℕ) → g < recovery_groups → recovery_groups ≤ g + cond b 1 0 → (b ≡ true) × (g + 1 ≡ recovery_groups)
last_group true g few over = (refl, omega arith)
last_group false g few over = absurd (omega arith)

-- the split

abbrev Split : List Event → Type 0
Split h = NotPassed h ⊎ Passed h

start : {h : List Event} → AsNew h → NotPassed h
start {h} a = record { before = h; since = []; whole = sym (append-nil h); as_new = a; calm = calm-nil }

not_passed_more : (h : List Event) (e : Event) → NotPassed h → Split (h ++ (e ∷ []))
not_passed_more h e n =
    let w : h ++ (e ∷ []) ≡ n.before ++ (n.since ++ (e ∷ [])) = rw n.whole (simp append_assoc) in
    ⊎_elim
    (λ t. inr (record {
      before = n.before;
      since = n.since ++ (e ∷ []);
      later = [];
      whole = rw (append-nil (n.since ++ (e ∷ []))) w;
      as_new = n.as_new;
      passes = (before_last n.since e n.calm, t);
      waits = omega arith;
    }))
    (λ t. inl (record { before = n.before; since = n.since ++ (e ∷ []); whole = w; as_new = n.as_new; calm = calm_more n.since e n.calm t }))
    (lt_or_le off_above (T_of (n.since ++ (e ∷ []))))

module _ (h : List Event) (e : Event) (p : Passed h) where
  whole_more : h ++ (e ∷ []) ≡ p.before ++ (p.since ++ (p.later ++ (e ∷ [])))
  whole_more = rw p.whole (simp append_assoc)

  -- it waits on,
  pub still_passed : groups (since_asked p.later) + group e < recovery_groups → Passed (h ++ (e ∷ []))
  still_passed few = record {
    before = p.before;
    since = p.since;
    later = p.later ++ (e ∷ []);
    whole = whole_more;
    as_new = p.as_new;
    passes = p.passes;
    waits = omega (arith, since_more p.later e);
  }

  -- or it has recovered
  pub recovered : e ≡ ElevenRecessive → groups (since_asked p.later) + 1 ≡ recovery_groups → AsNew (h ++ (e ∷ []))
  recovered is full = rw (whole_more, is) (recovery p.before p.since p.later p.as_new p.passes full)

  passed_more : Split (h ++ (e ∷ []))
  passed_more =
      ⊎_elim
      (λ few. inr (still_passed few))
      (λ over. let (is, full) = last_group (is_group e) (groups (since_asked p.later)) p.waits over in
      inl (start (recovered (only_eleven e is) full)))
      (lt_or_le (groups (since_asked p.later) + group e) recovery_groups)

split_on : (h k : List Event) → Split h → Split (h ++ k)
split_on h [] s = rw (append-nil h) s
split_on h (e ∷ k) s =
    rw (← append_assoc h (e ∷ []) k) (split_on (h ++ (e ∷ [])) k (⊎_elim (not_passed_more h e) (passed_more h e) s))

pub split : (h : List Event) → NotPassed h ⊎ Passed h
split h = split_on [] h (inl (start new))
