-- What the "old controllers" mark does: who gets 8, by the rows of 1 and 8; which identifiers those are, by cutting the eleven bits in two;
-- and that else it changes nothing, since no other row looks at it.
use Rattle.std.proofs.Common.{ℕ, ◌+◌, ◌*◌, ◌/◌, ◌%◌, ◌^◌, ◌≤◌, ◌<◌, ◌≡◌, refl, sym, ap, ◌∙◌, ◌↔◌, Bool, true, false, List, [], ◌∷◌, arith, take, take_at, lt-ltb, le-ltb, ltb-true, ltb-false}
use Rattle.std.proofs.lemmas.Bool.{false≢true}
use Rattle.wire.specs.declared.idents.Ident.{Ident}
use Rattle.wire.specs.declared.idents.Ident.TheVariants.{Base, Extended}
use Rattle.wire.specs.declared.frames.Frame.{Frame}
use Rattle.wire.specs.Numbers.{highest_base, highest_old}
use Rattle.wire.specs.Bits.{bits, number}
use Rattle.wire.proofs.BitsLaws.{length_bits, bits-append, number-bits}
use Rattle.refusals.specs.Refusals.{row, too_large, barred, refusal}
use Rattle.refusals.specs.RefusalsLaws.{None}
use Rattle.writer.specs.Exactly.{call_exactly}
use Rattle.writer.specs.Writer.{Written, outcome, answer}
use Rattle.writer.specs.WriterLaws.{not_barred_alike}
use Rattle.claims.specs.Numbers.{upper_bits}
use Rattle.claims.specs.Lines.{recessive}
use Rattle.claims.specs.OldControllers.{Barred, upper_seven}

-- THE IDENTIFIERS

barred_exactly : (old : Bool) (i : Ident) → (None (row 1 (too_large i) ∷ []) × (barred old i ≡ true)) ↔ ((old ≡ true) × Barred i)
barred_exactly true (Base i) = (
  λ p. (refl, (ltb-true highest_old i.0 p.1, ltb-false highest_base i.0 p.0.0)),
  λ q. ((le-ltb highest_base i.0 q.1.1, tt), lt-ltb highest_old i.0 q.1.0),
)
barred_exactly false (Base i) = (λ p. absurd (false≢true p.1), λ q. absurd (false≢true q.0))
barred_exactly old (Extended i) = (λ p. absurd (false≢true p.1), λ q. absurd q.1)

upper : (i : ℕ) → upper_seven i ≡ bits upper_bits (i / 16)
upper i =
    let e : i / 16 * 2 ^ 4 + i % 16 ≡ i = omega arith in
    ap upper_seven (sym e)
    ∙ ap (take 7) (bits-append 7 4 (i / 16) (i % 16) (omega arith))
    ∙ take_at (bits 7 (i / 16)) (bits 4 (i % 16)) 7 (length_bits 7 (i / 16))

all_seven : bits upper_bits 127 ≡ recessive upper_bits
unfolding bits
all_seven = refl

pub upper_seven_is : (i : ℕ) → i ≤ highest_base → (highest_old < i) ↔ (upper_seven i ≡ recessive upper_bits)
upper_seven_is i h = (
  λ l. let q : i / 16 ≡ 127 = omega arith in upper i ∙ ap (bits upper_bits) q ∙ all_seven,
  λ e. let q : i / 16 ≡ 127 = sym (number-bits 7 (i / 16) (omega arith)) ∙ ap number (sym (upper i) ∙ e) in omega arith,
)

-- THE CALL

module _ (f : Frame) (old : Bool) (c : List ℕ) (start : ℕ) where
  too_large_alike : too_large f.ident ≡ true → answer f old c start ≡ answer f false c start
  unfolding answer refusal
  too_large_alike e = rw e

module _ (f : Frame) (old : Bool) (c c' : List ℕ) (start : ℕ) (w : Written) (says : outcome w c' ≡ answer f old c start) where
  given : (w.refusal ≡ 8) ↔ (None (row 1 (too_large f.ident) ∷ []) × (barred old f.ident ≡ true))
  given = (call_exactly f old c c' start w says).eight

  pub eight : (w.refusal ≡ 8) ↔ ((old ≡ true) × Barred f.ident)
  eight = let meant = barred_exactly old f.ident in (λ e. meant.0 (given.0 e), λ q. given.1 (meant.1 q))

  pub but_for_eight : (w.refusal ≡ 8 → ⊥) → outcome w c' ≡ answer f false c start
  but_for_eight n = says ∙ go (too_large f.ident) refl (barred old f.ident) refl
    where
      go : (large : Bool) → too_large f.ident ≡ large → (bar : Bool) → barred old f.ident ≡ bar → answer f old c start ≡ answer f false c start
      go true e bar g = too_large_alike f old c start e
      go false e true g = absurd (n (given.1 ((e, tt), g)))
      go false e false g = not_barred_alike f old c start g
