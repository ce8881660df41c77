-- Every record reached from a new one stands where the table does, and keeps its ranges; so its calls say what the table says.
use Rattle.std.proofs.Common.{ℕ, ◌<◌, ◌≡◌, refl, sym, ap, ap₂, subst, ◌∙◌, Bool, true, false, cond, List, [], ◌∷◌, ◌++◌, append-nil, append_assoc, ltb, lt-ltb, ltb-true}
use Rattle.wire.proofs.BitsLaws.{AllBits, all_bits-append}
use Rattle.line.specs.Core.{stepped}
use Rattle.line.specs.Ranges.{core_fits}
use Rattle.line.proofs.RangesLaws.{fits-new, fits-step}
use Rattle.listener.specs.declared.listeners.Listener.{Listener}
use Rattle.listener.specs.declared.answers.Heard.{Heard}
use Rattle.listener.specs.Listener.{new_listener, accepted, fits, heard}
use Rattle.listener.specs.Listener as machine
use Rattle.listener.proofs.Loops.{next_core}
use Rattle.claims.specs.Answers.{Said, refused, said}
use Rattle.claims.specs.Table.{Where, waiting, row, where_from, says_from}
use Rattle.claims.specs.Histories.{after_calls, answers_to, reached, accepted_of, table_answers}
use Rattle.proving.specs.Cases.{either}
use Rattle.claims.proofs.AsTable.{Stands, stands_new, step_table}
use Rattle.claims.proofs.Seventeen.{Valid, valid_row}
use Rattle.claims.proofs.Marks.{Marks, marks-row}

-- what holds of a record l, the accepted samples h before, and where the table then is
pub record Good (h : List ℕ) (l : Listener) (p : Where) : Type 0 where
  pub bits : AllBits h
  pub fit : fits l ≡ true
  pub stands : Stands h l p
  pub marks : Marks h p
  pub valid : Valid p

pub good_new : Good [] new_listener waiting
good_new = record { bits = tt; fit = fits-new; stands = stands_new; marks = tt; valid = tt }

-- ONE CALL

module _ (h : List ℕ) (l : Listener) (p : Where) (g : Good h l p) (b : ℕ) where
  pub heard-accepted : b < 2 → heard l b ≡ accepted l b
  heard-accepted bit = rw (g.fit, lt-ltb b 2 bit)

  pub heard-refused : ltb b 2 ≡ false → heard l b ≡ machine.refused 6 l
  heard-refused e = rw (g.fit, e)

  good-step : b < 2 → Good (h ++ (b ∷ [])) (accepted l b).next (row h p b).goes
  good-step bit =
      record {
        bits = all_bits-append h (b ∷ []) g.bits (bit, tt);
        fit = ap core_fits (next_core (stepped l.core b).event (stepped l.core b).core l.bytes) ∙ fits-step l.core b g.fit bit;
        stands = (step_table h l p b bit g.stands).stands;
        marks = marks-row h b bit g.bits p g.marks;
        valid = valid_row h p b g.valid;
      }

  pub says_row : b < 2 → said (heard l b) ≡ (row h p b).says
  says_row bit = ap said (heard-accepted bit) ∙ (step_table h l p b bit g.stands).says

  pub good_call : b < 2 → Good (h ++ (b ∷ [])) (heard l b).next (row h p b).goes
  good_call bit = subst (λ (x : Listener). Good (h ++ (b ∷ [])) x (row h p b).goes) (sym (ap (λ (y : Heard). y.next) (heard-accepted bit))) (good-step bit)

-- A HISTORY

pub good_calls : (bs h : List ℕ) (l : Listener) (p : Where) → Good h l p
    → Good (h ++ accepted_of bs) (after_calls l bs) (where_from h p (accepted_of bs))
good_calls [] h l p g = subst (λ (x : List ℕ). Good x l p) (sym (append-nil h)) g
good_calls (b ∷ bs) h l p g =
    either (λ (xs : List ℕ). Good (h ++ xs) (after_calls (heard l b).next bs) (where_from h p xs)) (ltb b 2)
    (λ e.
    subst (λ (x : List ℕ). Good x (after_calls (heard l b).next bs) (where_from (h ++ (b ∷ [])) (row h p b).goes (accepted_of bs))) (append_assoc h (b ∷ []) (accepted_of bs))
    (good_calls bs (h ++ (b ∷ [])) (heard l b).next (row h p b).goes (good_call h l p g b (ltb-true b 2 e))))
    (λ e.
    subst (λ (x : Listener). Good (h ++ accepted_of bs) (after_calls x bs) (where_from h p (accepted_of bs))) (sym (ap (λ (y : Heard). y.next) (heard-refused h l p g b e)))
    (good_calls bs h l p g))

pub calls_say : (bs h : List ℕ) (l : Listener) (p : Where) → Good h l p → answers_to l bs ≡ table_answers h p bs
calls_say [] h l p g = refl
calls_say (b ∷ bs) h l p g =
    either (λ (ys : List Said). said (heard l b) ∷ answers_to (heard l b).next bs ≡ ys) (ltb b 2)
    (λ e.
    ap₂ (λ (x : Said) (xs : List Said). x ∷ xs) (says_row h l p g b (ltb-true b 2 e))
    (calls_say bs (h ++ (b ∷ [])) (heard l b).next (row h p b).goes (good_call h l p g b (ltb-true b 2 e))))
    (λ e.
    ap (λ (y : Heard). said y ∷ answers_to y.next bs) (heard-refused h l p g b e)
    ∙ ap (λ (xs : List Said). refused 6 ∷ xs) (calls_say bs h l p g))

-- from a new listener
pub good_reached : (h : List ℕ) → Good (accepted_of h) (reached h) (where_from [] waiting (accepted_of h))
good_reached h = good_calls h [] new_listener waiting good_new

-- CALLS, PART BY PART

pub after-append : (l : Listener) (xs ys : List ℕ) → after_calls l (xs ++ ys) ≡ after_calls (after_calls l xs) ys
after-append l [] ys = refl
after-append l (x ∷ xs) ys = after-append (heard l x).next xs ys

pub accepted-append : (xs ys : List ℕ) → accepted_of (xs ++ ys) ≡ accepted_of xs ++ accepted_of ys
accepted-append [] ys = refl
accepted-append (x ∷ xs) ys = rw (accepted-append xs ys) (go (ltb x 2) (accepted_of xs) (accepted_of ys))
  where
    go : (t : Bool) (k m : List ℕ) → cond t (x ∷ (k ++ m)) (k ++ m) ≡ cond t (x ∷ k) k ++ m
    go true k m = refl
    go false k m = refl

pub accepted-bits : (xs : List ℕ) → AllBits xs → accepted_of xs ≡ xs
accepted-bits [] h = refl
accepted-bits (x ∷ xs) h = rw (lt-ltb x 2 h.0) (ap (λ (l : List ℕ). x ∷ l) (accepted-bits xs h.1))

-- where every byte is a sample, the table's answers are those to samples
pub answers_bits : (bs h : List ℕ) (p : Where) → AllBits bs → table_answers h p bs ≡ says_from h p bs
answers_bits [] h p a = refl
answers_bits (b ∷ bs) h p a = rw (lt-ltb b 2 a.0) (ap (λ (xs : List Said). (row h p b).says ∷ xs) (answers_bits bs (h ++ (b ∷ [])) (row h p b).goes a.1))
