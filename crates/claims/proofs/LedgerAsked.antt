-- What was asked for in a history, and the groups since: by induction over the history, event by event.
use Rattle.std.proofs.Common.{◌+◌, ◌≤◌, ◌<◌, arith, add_assoc, ◌≡◌, refl, sym, Bool, true, false, cond, true≢false, List, [], ◌∷◌, ◌++◌}
use Rattle.std.proofs.lemmas.Bool.{false≢true}
use Rattle.ledger.specs.declared.event.Event.{Event}
use Rattle.ledger.specs.declared.event.Event.TheVariants.{ErrorSeen, DominantAfterFlag, FlagErrorAsTransmitter, FlagErrorAsReceiver, ErrorFlagSent, AcknowledgeError, StuffBitOverwritten, SentWell, ReceivedWell, ElevenRecessive, Ask}
use Rattle.ledger.specs.Rules.{is_group, is_ask}
use Rattle.claims.specs.LedgerHistory.{group, groups, asked, since_asked}
use Rattle.proving.specs.Cases.{either}

-- a recessive group, and no asking

pub only_eleven : (e : Event) → is_group e ≡ true → e ≡ ElevenRecessive
only_eleven ErrorSeen h = absurd (false≢true h)
only_eleven DominantAfterFlag h = absurd (false≢true h)
only_eleven FlagErrorAsTransmitter h = absurd (false≢true h)
only_eleven FlagErrorAsReceiver h = absurd (false≢true h)
only_eleven ErrorFlagSent h = absurd (false≢true h)
only_eleven AcknowledgeError h = absurd (false≢true h)
only_eleven StuffBitOverwritten h = absurd (false≢true h)
only_eleven SentWell h = absurd (false≢true h)
only_eleven ReceivedWell h = absurd (false≢true h)
only_eleven ElevenRecessive h = refl
only_eleven Ask h = absurd (false≢true h)

pub group_no_ask : (e : Event) → is_group e ≡ true → is_ask e ≡ false
group_no_ask e h = rw (only_eleven e h)

-- where nobody asked

pub since_unasked : (h : List Event) → asked h ≡ false → since_asked h ≡ []
since_unasked [] u = refl
since_unasked (e ∷ h) u =
    either (λ (k : List Event). k ≡ []) (is_ask e) (λ a. absurd (true≢false (rw a at u))) (λ a. since_unasked h (rw a at u))

pub groups-asked : (h : List Event) → 0 < groups (since_asked h) → asked h ≡ true
groups-asked h some = go (asked h) refl
  where
    go : (a : Bool) → asked h ≡ a → a ≡ true
    go true u = refl
    go false u = absurd (let none : groups (since_asked h) ≡ 0 = rw (since_unasked h u) in omega arith)

-- one event more

groups_more : (h : List Event) (e : Event) → groups (h ++ (e ∷ [])) ≡ groups h + group e
groups_more [] e = omega arith
groups_more (d ∷ h) e = rw (groups_more h e) (sym (add_assoc (group d) (groups h) (group e)))

pub since_more : (h : List Event) (e : Event) → groups (since_asked (h ++ (e ∷ []))) ≤ groups (since_asked h) + group e
since_more [] e = either (λ (k : List Event). groups k ≤ 0 + group e) (is_ask e) {x = []} {y = []} (λ _. omega arith) (λ _. omega arith)
since_more (d ∷ h) e = go (is_ask d) (since_more h e)
  where
    go : (a : Bool) → groups (since_asked (h ++ (e ∷ []))) ≤ groups (since_asked h) + group e →
        groups (cond a (h ++ (e ∷ [])) (since_asked (h ++ (e ∷ [])))) ≤ groups (cond a h (since_asked h)) + group e
    go true rest = omega (arith, groups_more h e)
    go false rest = rest
