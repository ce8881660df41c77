-- Histories: any list of sample bytes, each offered to the record that the call before handed back.
use Rattle.std.specs.Prelude.{ℕ, cond, List, [], ◌∷◌, ◌++◌, ◌≡◌, ltb}
use Rattle.wire.specs.Numbers.{intermission_bits}
use Rattle.moves.specs.declared.places.Place.{Place}
use Rattle.moves.specs.declared.places.Place.TheVariants.{Waiting, Ready, Stuffed, AckSlot, AckDelimiter, EndOfFrame, Intermission}
use Rattle.listener.specs.declared.listeners.Listener.{Listener}
use Rattle.listener.specs.Listener.{new_listener, heard}
use Rattle.claims.specs.Answers.{Said, nothing, handed, stuff_error, form_error, crc_error, overload, newer_format, refused, said}
use Rattle.claims.specs.Table.{Where, row}

-- the record after a history, and what its calls say
abbrev pub after_calls : Listener → List ℕ → Listener
after_calls l [] = l
after_calls l (b ∷ bs) = after_calls (heard l b).next bs

abbrev pub answers_to : Listener → List ℕ → List Said
answers_to l [] = []
answers_to l (b ∷ bs) = said (heard l b) ∷ answers_to (heard l b).next bs

-- a listener that began new
abbrev pub reached : List ℕ → Listener
reached h = after_calls new_listener h

-- ready, or at the third intermission bit: where a dominant bit is a start of frame
abbrev pub Listening : Place → Type 0
Listening Waiting = ⊥
Listening Ready = Unit {0}
Listening Stuffed = ⊥
Listening AckSlot = ⊥
Listening AckDelimiter = ⊥
Listening (EndOfFrame k) = ⊥
Listening (Intermission k) = k ≡ intermission_bits

-- the samples that are accepted
abbrev pub accepted_of : List ℕ → List ℕ
accepted_of [] = []
accepted_of (b ∷ bs) = cond (ltb b 2) (b ∷ accepted_of bs) (accepted_of bs)

-- the answers but the refusals
abbrev pub unrefused : List Said → List Said
unrefused [] = []
unrefused (nothing ∷ ss) = nothing ∷ unrefused ss
unrefused (handed r ∷ ss) = handed r ∷ unrefused ss
unrefused (stuff_error ∷ ss) = stuff_error ∷ unrefused ss
unrefused (form_error ∷ ss) = form_error ∷ unrefused ss
unrefused (crc_error ∷ ss) = crc_error ∷ unrefused ss
unrefused (overload ∷ ss) = overload ∷ unrefused ss
unrefused (newer_format ∷ ss) = newer_format ∷ unrefused ss
unrefused (refused n ∷ ss) = unrefused ss

-- what the table says of calls: a byte that is neither 0 nor 1 is refused with 6, and counts as never offered
abbrev pub table_answers : List ℕ → Where → List ℕ → List Said
table_answers h p [] = []
table_answers h p (b ∷ bs) =
    cond (ltb b 2)
    ((row h p b).says ∷ table_answers (h ++ (b ∷ [])) (row h p b).goes bs)
    (refused 6 ∷ table_answers h p bs)
