-- Laws of histories: one after another, and within the ranges.
use Rattle.std.specs.Prelude.{ℕ, suc, ◌+◌, ◌≤◌, ◌<◌, ◌≡◌, refl, true, List, [], ◌∷◌, ◌++◌, length, drop, get_or, fold}
use Rattle.std.proofs.Common.{add-one, arith, drop_of_length-le, drop-cons, sym, ◌∙◌}
use Rattle.ledger.specs.declared.ledger.Ledger.{Ledger}
use Rattle.ledger.specs.declared.event.Event.{Event}
use Rattle.ledger.specs.Rules.{next}
use Rattle.ledger.specs.Answer.{in_range}
use Rattle.ledger.specs.AnswerLaws.{next-in_range}
use Rattle.ledger.specs.History.{run, in_order, event_of, numbered, events}

pub run-append : (g h : List Event) (l : Ledger) → run (g ++ h) l ≡ run h (run g l)
unfolding run
run-append [] h l = refl
run-append (e ∷ g) h l = run-append g h (next e l)

pub run-in_range : (h : List Event) (l : Ledger) → in_range l ≡ true → in_range (run h l) ≡ true
unfolding run
run-in_range [] l p = p
run-in_range (e ∷ h) l p = run-in_range h (next e l) (next-in_range e l p)

-- histories lent as numbers

pub event_of_above : (n : ℕ) → 10 < n → event_of n ≡ []
unfolding event_of
event_of_above n h = rw (drop_of_length-le in_order {i = n} (omega arith))

pub run-at : (ns : List ℕ) (i : ℕ) (l : Ledger) → i < length ns →
    run (events (drop i ns)) l ≡ run (events (drop (i + 1) ns)) (run (event_of (get_or ns i 0)) l)
unfolding events
run-at ns i l h = rw (add-one, drop-cons ns i 0 h) (run-append (event_of (get_or ns i 0)) (events (drop (suc i) ns)) l)

pub run-end : (ns : List ℕ) (i : ℕ) (l : Ledger) → length ns ≤ i → run (events (drop i ns)) l ≡ l
unfolding events run
run-end ns i l h = rw (drop_of_length-le ns {i = i} h)

pub run_fold : (ns : List ℕ) (l : Ledger) → fold numbered l ns ≡ run (events ns) l
unfolding run events numbered
run_fold [] l = refl
run_fold (n ∷ ns) l = run_fold ns (numbered l n) ∙ sym (run-append (event_of n) (events ns) l)
