-- The listener's promises are kept.
use Rattle.std.proofs.Common.{ℕ, ◌<◌, ◌≤◌, ◌≡◌, refl, sym, ap, ◌∙◌, Bool, true, false, true≢false, ◌↔◌, List, [], ◌∷◌, ◌++◌, arith, ltb, take, le-ltb, ltb-true, ltb-false}
use Rattle.std.proofs.lemmas.Bool.{false≢true}
use Rattle.wire.specs.Bits.{xors}
use Rattle.wire.specs.Crc.{crc_step}
use Rattle.moves.specs.declared.places.Place.TheVariants.{Ready, Intermission}
use Rattle.moves.specs.declared.places.Fault.{Fault}
use Rattle.moves.specs.declared.places.Fault.TheVariants.{StuffError, FormError, CrcError, Overload, NewerFormat}
use Rattle.line.specs.declared.cores.Core.{Core}
use Rattle.line.specs.declared.cores.Event.{Event}
use Rattle.line.specs.declared.cores.Event.TheVariants.{Keep, Whole, Failed}
use Rattle.line.specs.Core.{stepped}
use Rattle.listener.specs.declared.listeners.Listener.{Listener}
use Rattle.listener.specs.declared.answers.Heard.{Heard}
use Rattle.listener.specs.Listener.{new_listener, answer_to, accepted, fits, heard}
use Rattle.claims.specs.Answers.{Said, nothing, handed, stuff_error, form_error, crc_error, overload, newer_format, refused, fault_said, said}
use Rattle.claims.specs.Table.{Where, waiting, row}
use Rattle.claims.specs.Histories.{answers_to, after_calls, reached, accepted_of, unrefused}
use Rattle.claims.specs.Numbers.{settling}
use Rattle.claims.specs.Lines.{recessive, Piece, line_of, Line}
use Rattle.claims.specs.Sixteen.{before_sixteen}
use Rattle.claims.specs.Promises.{ListenerPromises}
use Rattle.proving.specs.Cases.{either}
use Rattle.claims.proofs.Reached.{Good, good_new, good_call, heard-accepted, heard-refused}
use Rattle.claims.proofs.Calls as calls

-- REFUSALS

abbrev is_refused : Said → Bool
is_refused nothing = false
is_refused (handed r) = false
is_refused stuff_error = false
is_refused form_error = false
is_refused crc_error = false
is_refused overload = false
is_refused newer_format = false
is_refused (refused n) = true

-- a sample that is accepted is not refused
fault_accepted : (x : Fault) → is_refused (fault_said x) ≡ false
fault_accepted StuffError = refl
fault_accepted FormError = refl
fault_accepted CrcError = refl
fault_accepted Overload = refl
fault_accepted NewerFormat = refl

event_accepted : (e : Event) (c : Core) (bytes : List ℕ) → is_refused (said (answer_to e c bytes)) ≡ false
event_accepted (Keep k) c bytes = refl
event_accepted Whole c bytes = refl
event_accepted (Failed x) c bytes = fault_accepted x

not_refused : (l : Listener) (b n : ℕ) {A : Type 0} → said (accepted l b) ≡ refused n → A
not_refused l b n e =
    absurd (false≢true (sym (event_accepted (stepped l.core b).event (stepped l.core b).core l.bytes) ∙ ap is_refused e))

same_number : (m n : ℕ) → refused m ≡ refused n → m ≡ n
same_number m n e = cc

six_is_not_seven : {A : Type 0} → refused 6 ≡ refused 7 → A
six_is_not_seven e = let z : ◌≡◌ {A = ℕ} 6 7 = same_number 6 7 e in absurd (omega arith)

seven : (l : Listener) (b : ℕ) → (said (heard l b) ≡ refused 7) ↔ (fits l ≡ false)
seven l b = (
  either (λ (x : Heard). said x ≡ refused 7 → fits l ≡ false) (fits l)
      (λ _. either (λ (x : Heard). said x ≡ refused 7 → fits l ≡ false) (ltb b 2) (λ _ e. not_refused l b 7 e) (λ _ e. six_is_not_seven e))
      (λ t _. t),
  λ t. rw t,
)

six : (l : Listener) (b : ℕ) → (said (heard l b) ≡ refused 6) ↔ ((fits l ≡ true) × (2 ≤ b))
six l b = (
  either (λ (x : Heard). said x ≡ refused 6 → (fits l ≡ true) × (2 ≤ b)) (fits l)
      (λ t. either (λ (x : Heard). said x ≡ refused 6 → (fits l ≡ true) × (2 ≤ b)) (ltb b 2) (λ _ e. not_refused l b 6 e) (λ q _. (t, ltb-false b 2 q)))
      (λ _ e. six_is_not_seven (sym e)),
  λ p. rw (p.0, le-ltb b 2 p.1),
)

unchanged : (l : Listener) (b n : ℕ) → said (heard l b) ≡ refused n → (heard l b).next ≡ l
unchanged l b n =
    either (λ (x : Heard). said x ≡ refused n → x.next ≡ l) (fits l)
    (λ _. either (λ (x : Heard). said x ≡ refused n → x.next ≡ l) (ltb b 2) (λ _ e. not_refused l b n e) (λ _ _. refl))
    (λ _ _. refl)

-- COUNTED AS NEVER MADE

keep : (s : Said) (ss : List Said) → is_refused s ≡ false → unrefused (s ∷ ss) ≡ s ∷ unrefused ss
keep nothing ss e = refl
keep (handed r) ss e = refl
keep stuff_error ss e = refl
keep form_error ss e = refl
keep crc_error ss e = refl
keep overload ss e = refl
keep newer_format ss e = refl
keep (refused n) ss e = absurd (false≢true (sym e))

-- a history and its accepted samples lead to one record, and are answered alike
abbrev Alike : Listener → List ℕ → List ℕ → Type 0
Alike l bs xs = (after_calls l bs ≡ after_calls l xs) × (unrefused (answers_to l bs) ≡ answers_to l xs)

made : (bs h : List ℕ) (l : Listener) (p : Where) → Good h l p → Alike l bs (accepted_of bs)
made [] h l p g = (refl, refl)
made (b ∷ bs) h l p g =
    either (Alike l (b ∷ bs)) (ltb b 2)
    (λ t.
    let bit : b < 2 = ltb-true b 2 t in
    let m = made bs (h ++ (b ∷ [])) (heard l b).next (row h p b).goes (good_call h l p g b bit) in
    let a : is_refused (said (heard l b)) ≡ false =
    ap (λ (y : Heard). is_refused (said y)) (heard-accepted h l p g b bit) ∙ event_accepted (stepped l.core b).event (stepped l.core b).core l.bytes in
    (m.0, keep (said (heard l b)) (answers_to (heard l b).next bs) a ∙ ap (λ (ss : List Said). said (heard l b) ∷ ss) m.1))
    (λ t.
    let m = made bs h l p g in
    let e = heard-refused h l p g b t in
    (ap (λ (y : Heard). after_calls y.next bs) e ∙ m.0, ap (λ (y : Heard). unrefused (said y ∷ answers_to y.next bs)) e ∙ m.1))

-- SIXTEEN

at_third : (reached (before_sixteen ++ recessive 16)).core.place ≡ Intermission 3
unfolding xors crc_step
at_third = refl

sixteen : (reached (before_sixteen ++ recessive 16)).core.place ≡ Ready → ⊥
sixteen e = let z : Intermission 3 ≡ Ready = sym at_third ∙ e in let n : ◌≡◌ {A = ℕ} 0 1 = cc in omega arith

-- KEPT

never_seven : (h : List ℕ) (b : ℕ) → said (heard (reached h) b) ≡ refused 7 → ⊥
never_seven h b e = true≢false (sym (calls.fits-reached h) ∙ (seven (reached h) b).0 e)

pub listener_kept : ListenerPromises
listener_kept =
    record {
      seven = seven;
      six = six;
      unchanged = unchanged;
      never_made = λ (h : List ℕ). made h [] new_listener waiting good_new;
      never_seven = never_seven;
      as_table = calls.as_table;
      image_heard = calls.image_heard;
      newer_begun = calls.newer_heard;
      came_from_image = calls.came_from;
      ready_again = calls.ready_again;
      sixteen = sixteen;
      each_once = λ (h : List ℕ) (ps : List Piece) (k n : ℕ) (l : Line ps). calls.answers-take n (reached (h ++ recessive settling)) (line_of ps k) ∙ ap (take n) (calls.line_heard h ps k l);
    }
