-- What a history of events says by itself, with no ledger and no test for bus-off: T and R by 01's list, and where T has passed 255 since
-- the last recovery. The history is split at its recoveries. Histories are lists of events, the oldest first.
use Rattle.std.specs.Prelude.{ℕ, ◌+◌, ◌≤◌, ◌<◌, ◌≡◌, Bool, false, cond, ◌||◌, List, [], ◌∷◌, ◌++◌, length, take}
use Rattle.counts.specs.Numbers.{off_above}
use Rattle.ledger.specs.declared.event.Event.{Event}
use Rattle.ledger.specs.declared.event.Event.TheVariants.{ElevenRecessive}
use Rattle.ledger.specs.Numbers.{recovery_groups}
use Rattle.ledger.specs.Rules.{Counts, counts, change, is_group, is_ask}

-- T and R worked out from the events alone, from counts that stood before
abbrev pub worked : Counts → List Event → Counts
worked c [] = c
worked c (e ∷ h) = worked (change e c.T c.R) h

-- and from 0, where both start
abbrev pub T_of : List Event → ℕ
T_of h = (worked (counts 0 0) h).T

abbrev pub R_of : List Event → ℕ
R_of h = (worked (counts 0 0) h).R

-- how many recessive groups a history has
abbrev pub group : Event → ℕ
group e = cond (is_group e) 1 0

abbrev pub groups : List Event → ℕ
groups [] = 0
groups (e ∷ h) = group e + groups h

-- whether a recovery was asked for
abbrev pub asked : List Event → Bool
asked [] = false
asked (e ∷ h) = is_ask e || asked h

-- what follows the first asking; nothing where nobody asked
abbrev pub since_asked : List Event → List Event
since_asked [] = []
since_asked (e ∷ h) = cond (is_ask e) h (since_asked h)

-- T is at most 255 all along, to the end
abbrev pub Calm : List Event → Type 0
Calm h = (n : ℕ) → n ≤ length h → T_of (take n h) ≤ off_above

-- T passes 255 with the last event, and for the first time
abbrev pub Passes : List Event → Type 0
Passes h = ((n : ℕ) → n < length h → T_of (take n h) ≤ off_above) × (off_above < T_of h)

-- a history that leaves the station as new: it is empty, or ends in a recovery. A recovery is the 128th recessive group since it was first
-- asked for after T passed 255 (W-210)
pub data AsNew : List Event → Type 0 where
  new : AsNew []
  recovery : (a b c : List Event) → AsNew a → Passes b → groups (since_asked c) + 1 ≡ recovery_groups → AsNew (a ++ (b ++ (c ++ (ElevenRecessive ∷ []))))

-- T has not passed 255 since the last recovery
pub record NotPassed (h : List Event) : Type 0 where
  pub before : List Event
  pub since : List Event
  pub whole : h ≡ before ++ since
  pub as_new : AsNew before
  pub calm : Calm since

-- T has passed 255 since the last recovery, with the last event of `since`; `later` has not brought the station back
pub record Passed (h : List Event) : Type 0 where
  pub before : List Event
  pub since : List Event
  pub later : List Event
  pub whole : h ≡ before ++ (since ++ later)
  pub as_new : AsNew before
  pub passes : Passes since
  pub waits : groups (since_asked later) < recovery_groups
