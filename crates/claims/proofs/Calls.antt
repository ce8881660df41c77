-- The table's laws brought to the calls: what holds of the table holds of every record reached from a new one.
use Rattle.std.proofs.Common.{ℕ, zero, suc, ◌<◌, ◌≡◌, refl, sym, ap, subst, ◌∙◌, Bool, true, List, [], ◌∷◌, ◌++◌, arith, ltb, lit<, take, ltb-true}
use Rattle.wire.specs.declared.idents.Ident.{Ident}
use Rattle.wire.specs.declared.frames.Received.{Received}
use Rattle.wire.proofs.BitsLaws.{AllBits, all_bits-append}
use Rattle.wire.proofs.StuffingLaws.{stuff_bits}
use Rattle.wire.specs.Fields.{raw, before_fdf}
use Rattle.wire.proofs.FieldsLaws.{raw-bits}
use Rattle.wire.proofs.ImageLaws.{begun, image-bits}
use Rattle.wire.specs.Image.{image}
use Rattle.wire.specs.Legal.{IdentIn, Legal}
use Rattle.moves.specs.declared.places.Place.{Place}
use Rattle.moves.specs.declared.places.Place.TheVariants.{Waiting, Ready, Stuffed, AckSlot, AckDelimiter, EndOfFrame, Intermission}
use Rattle.line.specs.declared.inframe.InFrame.{InFrame}
use Rattle.listener.specs.declared.listeners.Listener.{Listener}
use Rattle.listener.specs.Listener.{new_listener, fits, heard}
use Rattle.claims.specs.Answers.{Said, handed, refused, said}
use Rattle.claims.specs.Table.{Where, waiting, ready, stuffed, crc_delimiter, ack_slot, ack_delimiter, end_of_frame, intermission, where_from, says_from}
use Rattle.claims.specs.Numbers.{settling}
use Rattle.claims.specs.Lines.{recessive, Piece, line_of, Line, reply, replies_to, CameFrom}
use Rattle.claims.specs.Newer.{newer_start, newer_reply}
use Rattle.claims.specs.Histories.{Listening, answers_to, reached, accepted_of, table_answers}
use Rattle.proving.specs.Cases.{either}
use Rattle.claims.proofs.AsTable.{At, waits, readies, stuffs, delimits, slots, acks, ends, rests}
use Rattle.claims.proofs.Trace.{where-append}
use Rattle.claims.proofs.Complete.{Idle, is_ready, is_third, hears-image}
use Rattle.claims.proofs.Newer.{hears_newer}
use Rattle.claims.proofs.Lines.{hears_line}
use Rattle.claims.proofs.Seventeen.{seventeen}
use Rattle.claims.proofs.Caution.{caution}
use Rattle.claims.proofs.Reached.{good_new, good_reached, says_row, heard-refused, calls_say, accepted-append, accepted-bits, answers_bits}

-- PLACES OF THE TABLE AND OF THE RECORD

abbrev place_of : Where → Place
place_of waiting = Waiting
place_of ready = Ready
place_of (stuffed s) = Stuffed
place_of (crc_delimiter g) = Stuffed
place_of (ack_slot g) = AckSlot
place_of (ack_delimiter g a) = AckDelimiter
place_of (end_of_frame k g a) = EndOfFrame k
place_of (intermission k) = Intermission k

place_at : {p : Where} {c : Place} {f : InFrame} {bytes : List ℕ} → At p c f bytes → c ≡ place_of p
place_at waits = refl
place_at readies = refl
place_at (stuffs i q) = refl
place_at (delimits u c) = refl
place_at (slots c) = refl
place_at (acks c) = refl
place_at (ends c) = refl
place_at rests = refl

-- where a dominant bit is a start of frame
idle-at : {p : Where} {c : Place} {f : InFrame} {bytes : List ℕ} → At p c f bytes → Listening c → Idle p
idle-at waits l = absurd l
idle-at readies l = is_ready
idle-at (stuffs i q) l = absurd l
idle-at (delimits u c) l = absurd l
idle-at (slots c) l = absurd l
idle-at (acks c) l = absurd l
idle-at (ends c) l = absurd l
idle-at (rests {k}) l = subst (λ (n : ℕ). Idle (intermission n)) (sym l) is_third

-- HISTORIES

abbrev table_after : List ℕ → Where
table_after h = where_from [] waiting (accepted_of h)

ones-bits : (n : ℕ) → AllBits (recessive n)
ones-bits zero = tt
ones-bits (suc n) = (lit< tt, ones-bits n)

pub fits-reached : (h : List ℕ) → fits (reached h) ≡ true
fits-reached h = (good_reached h).fit

pub as_table : (h : List ℕ) → answers_to new_listener h ≡ table_answers [] waiting h
as_table h = calls_say h [] new_listener waiting good_new

-- where samples lead behind a history
table_more : (h xs : List ℕ) → AllBits xs → table_after (h ++ xs) ≡ where_from (accepted_of h) (table_after h) xs
table_more h xs a =
    ap (where_from [] waiting) (accepted-append h xs ∙ ap (λ (l : List ℕ). accepted_of h ++ l) (accepted-bits xs a))
    ∙ where-append [] waiting (accepted_of h) xs

place_reached : (h : List ℕ) (p : Where) → table_after h ≡ p → (reached h).core.place ≡ place_of p
place_reached h p e = place_at (good_reached h).stands.place ∙ ap place_of e

-- seventeen recessive samples
settled : (h : List ℕ) → table_after (h ++ recessive settling) ≡ ready
settled h = table_more h (recessive settling) (ones-bits settling) ∙ seventeen (accepted_of h) (table_after h) (good_reached h).valid

pub ready_again : (h : List ℕ) → (reached (h ++ recessive settling)).core.place ≡ Ready
ready_again h = place_reached (h ++ recessive settling) ready (settled h)

-- an image
pub image_heard : (h : List ℕ) (r : Received) → Legal r → Listening (reached h).core.place → answers_to (reached h) (image r) ≡ reply r
image_heard h r l i =
    let g = good_reached h in
    calls_say (image r) (accepted_of h) (reached h) (table_after h) g
    ∙ answers_bits (image r) (accepted_of h) (table_after h) (image-bits r)
    ∙ (hears-image (table_after h) r (idle-at g.stands.place i) l (accepted_of h)).0

-- a newer format
newer_bits : (i : Ident) (remote : Bool) (srr : ℕ) → AllBits (newer_start i remote srr)
newer_bits i remote srr =
    let xs : List ℕ = raw (before_fdf i remote srr) in
    (lit< tt, stuff_bits begun (xs ++ (1 ∷ [])) (all_bits-append xs (1 ∷ []) (raw-bits (before_fdf i remote srr)) (lit< tt, tt)))

pub newer_heard : (h : List ℕ) (i : Ident) (remote : Bool) (srr : ℕ) → IdentIn i → srr < 2 → Listening (reached h).core.place
    → (answers_to (reached h) (newer_start i remote srr) ≡ newer_reply (newer_start i remote srr)) × ((reached (h ++ newer_start i remote srr)).core.place ≡ Waiting)
newer_heard h i remote srr hi hs k =
    let g = good_reached h in
    let xs : List ℕ = newer_start i remote srr in
    let a : AllBits xs = newer_bits i remote srr in
    let t = hears_newer (table_after h) (idle-at g.stands.place k) i remote srr hi hs (accepted_of h) in (
      calls_say xs (accepted_of h) (reached h) (table_after h) g ∙ answers_bits xs (accepted_of h) (table_after h) a ∙ t.0,
      place_reached (h ++ xs) waiting (table_more h xs a ∙ t.1),
    )

-- a line
line_bits : (ps : List Piece) (k : ℕ) → AllBits (line_of ps k)
line_bits [] k = ones-bits k
line_bits (p ∷ ps) k =
    all_bits-append (recessive p.gap) (image p.received ++ line_of ps k) (ones-bits p.gap)
    (all_bits-append (image p.received) (line_of ps k) (image-bits p.received) (line_bits ps k))

pub line_heard : (h : List ℕ) (ps : List Piece) (k : ℕ) → Line ps
    → answers_to (reached (h ++ recessive settling)) (line_of ps k) ≡ replies_to ps k
line_heard h ps k l =
    let h' : List ℕ = h ++ recessive settling in
    calls_say (line_of ps k) (accepted_of h') (reached h') (table_after h') (good_reached h')
    ∙ answers_bits (line_of ps k) (accepted_of h') (table_after h') (line_bits ps k)
    ∙ ap (λ (p : Where). says_from (accepted_of h') p (line_of ps k)) (settled h)
    ∙ hears_line ps k l (accepted_of h')

pub answers-take : (n : ℕ) (l : Listener) (xs : List ℕ) → answers_to l (take n xs) ≡ take n (answers_to l xs)
answers-take zero l xs = refl
answers-take (suc n) l [] = refl
answers-take (suc n) l (x ∷ xs) = ap (λ (t : List Said). said (heard l x) ∷ t) (answers-take n (heard l x).next xs)

-- a frame handed out
refused_is_none : (n : ℕ) (r : Received) → refused n ≡ handed r → ⊥
refused_is_none n r e = let z : ◌≡◌ {A = ℕ} 0 1 = cc in omega arith

pub came_from : (h : List ℕ) (b : ℕ) (r : Received) → said (heard (reached h) b) ≡ handed r → CameFrom (accepted_of (h ++ (b ∷ []))) r
came_from h b r e =
    let g = good_reached h in
    subst (λ (xs : List ℕ). CameFrom xs r) (sym (accepted-append h (b ∷ [])))
    (either (λ (xs : List ℕ). CameFrom (accepted_of h ++ xs) r) (ltb b 2)
    (λ t.
    let bit : b < 2 = ltb-true b 2 t in
    caution (accepted_of h) (table_after h) b r bit g.bits g.marks (sym (says_row (accepted_of h) (reached h) (table_after h) g b bit) ∙ e))
    (λ t. absurd (refused_is_none 6 r (sym (ap said (heard-refused (accepted_of h) (reached h) (table_after h) g b t)) ∙ e))))
