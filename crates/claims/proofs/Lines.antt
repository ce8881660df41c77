-- A line of recessive bits and legal images is answered as it should be, from ready and behind an image: image by image, by the
-- central lemma.
use Rattle.std.proofs.Common.{ℕ, zero, suc, ◌≤◌, ◌≡◌, refl, ap, ap₂, ◌∙◌, List, [], ◌∷◌, ◌++◌, arith, replicate}
use Rattle.std.proofs.Math.ListN.{length-replicate}
use Rattle.wire.specs.declared.frames.Received.{Received}
use Rattle.wire.specs.Image.{image}
use Rattle.wire.specs.Legal.{Legal}
use Rattle.claims.specs.Answers.{Said, nothing}
use Rattle.claims.specs.Table.{Where, ready, intermission, says_from}
use Rattle.claims.specs.Numbers.{between}
use Rattle.claims.specs.Lines.{recessive, Piece, line_of, Spaced, Line, reply, replies_to}
use Rattle.claims.proofs.Trace.{says-append, silence, Silent, silent-nil, silent_one, hush}
use Rattle.claims.proofs.Complete.{Idle, is_ready, is_third, hears-image}

-- RECESSIVE BITS

pub ready_stays : (n : ℕ) → Silent ready (recessive n) ready
ready_stays zero = silent-nil ready
ready_stays (suc n) = hush (silent_one ready 1 ready (λ (h : List ℕ). refl)) (ready_stays n)

one : Silent (intermission 1) (1 ∷ []) (intermission 2)
one = silent_one (intermission 1) 1 (intermission 2) (λ (h : List ℕ). refl)

two : Silent (intermission 2) (1 ∷ []) (intermission 3)
two = silent_one (intermission 2) 1 (intermission 3) (λ (h : List ℕ). refl)

three : Silent (intermission 3) (1 ∷ []) ready
three = silent_one (intermission 3) 1 ready (λ (h : List ℕ). refl)

-- behind an image: at least two lead to where a dominant bit is a start of frame
gap_idle : (n : ℕ) → between ≤ n → (p : Where) × Idle p × Silent (intermission 1) (recessive n) p
gap_idle zero h = absurd (omega arith)
gap_idle (suc zero) h = absurd (omega arith)
gap_idle (suc (suc zero)) h = (intermission 3, is_third, hush one two)
gap_idle (suc (suc (suc n))) h = (ready, is_ready, hush one (hush two (hush three (ready_stays n))))

-- and any number says nothing
rest_silent : (k : ℕ) → (p : Where) × Silent (intermission 1) (recessive k) p
rest_silent zero = (intermission 1, silent-nil (intermission 1))
rest_silent (suc zero) = (intermission 2, one)
rest_silent (suc (suc zero)) = (intermission 3, hush one two)
rest_silent (suc (suc (suc n))) = (ready, hush one (hush two (hush three (ready_stays n))))

silence_is : (n : ℕ) → silence (recessive n) ≡ replicate n nothing
silence_is n = ap (λ (m : ℕ). replicate m nothing) (length-replicate n 1)

-- THE LINE

-- one piece, from a place from which its recessive bits lead to where a dominant bit is a start of frame
hears_piece : (p p' : Where) (n : ℕ) (r : Received) (rest : List ℕ) (replies : List Said) → Silent p (recessive n) p' → Idle p' → Legal r
    → ((h : List ℕ) → says_from h (intermission 1) rest ≡ replies)
    → (h : List ℕ) → says_from h p (recessive n ++ (image r ++ rest)) ≡ replicate n nothing ++ (reply r ++ replies)
hears_piece p p' n r rest replies s i l next h =
    let h₁ : List ℕ = h ++ recessive n in
    let m = hears-image p' r i l h₁ in
    says-append h p (recessive n) (image r ++ rest)
    ∙ ap₂ (λ (x y : List Said). x ++ y) (s.says h ∙ silence_is n)
    (ap (λ (w : Where). says_from h₁ w (image r ++ rest)) (s.goes h)
    ∙ says-append h₁ p' (image r) rest
    ∙ ap₂ (λ (x y : List Said). x ++ y) m.0 (ap (λ (w : Where). says_from (h₁ ++ image r) w rest) m.1 ∙ next (h₁ ++ image r)))

behind_image : (ps : List Piece) (k : ℕ) → Spaced ps → (h : List ℕ) → says_from h (intermission 1) (line_of ps k) ≡ replies_to ps k
behind_image [] k s h = let m = rest_silent k in m.1.says h ∙ silence_is k
behind_image (p ∷ ps) k s h =
    let m = gap_idle p.gap (omega (arith, s.0)) in
    hears_piece (intermission 1) m.0 p.gap p.received (line_of ps k) (replies_to ps k) m.2 m.1 s.1 (behind_image ps k s.2) h

pub hears_line : (ps : List Piece) (k : ℕ) → Line ps → (h : List ℕ) → says_from h ready (line_of ps k) ≡ replies_to ps k
hears_line [] k l h = (ready_stays k).says h ∙ silence_is k
hears_line (p ∷ ps) k l h =
    hears_piece ready ready p.gap p.received (line_of ps k) (replies_to ps k) (ready_stays p.gap) is_ready l.0 (behind_image ps k l.1) h
