-- Laws of the check, over any width and generator.
use Rattle.std.specs.Prelude.{ℕ, suc, ◌-◌, ◌*◌, ◌%◌, ◌^◌, ◌<◌, ◌≡◌, refl, Bool, true, false, cond, List, [], ◌∷◌, ◌++◌, eqb}
use Rattle.std.proofs.Common.{ap, ◌∙◌, pow-suc, mod-lt, arith, pow_pos}
use Rattle.wire.specs.Bits.{bit_at, xors}
use Rattle.wire.proofs.BitsLaws.{xors-lt}
use Rattle.wire.specs.Crc.{crc_step, crc_from}

pub crc-append : (w g r : ℕ) (xs ys : List ℕ) → crc_from w g r (xs ++ ys) ≡ crc_from w g (crc_from w g r xs) ys
crc-append w g r [] ys = refl
crc-append w g r (x ∷ xs) ys = crc-append w g (crc_step w g r x) xs ys

-- the register keeps to its width
pub crc_step-lt : (w g r b : ℕ) → 0 < w → crc_step w g r b < 2 ^ w
unfolding crc_step
crc_step-lt w g r b h = go (eqb (bit_at r (w - 1)) b)
  where
    go : (t : Bool) → cond t (r % 2 ^ (w - 1) * 2) (xors w (r % 2 ^ (w - 1) * 2) g) < 2 ^ w
    go true =
        let e : w ≡ suc (w - 1) = omega arith in
        let d : 2 ^ w ≡ 2 ^ (w - 1) * 2 = ap (λ (n : ℕ). 2 ^ n) e ∙ pow-suc 2 (w - 1) in
        omega (arith, mod-lt r (pow_pos (w - 1)))
    go false = xors-lt w (r % 2 ^ (w - 1) * 2) g

pub crc-lt : (w g r : ℕ) (bs : List ℕ) → 0 < w → r < 2 ^ w → crc_from w g r bs < 2 ^ w
crc-lt w g r [] h k = k
crc-lt w g r (b ∷ bs) h k = crc-lt w g (crc_step w g r b) bs h (crc_step-lt w g r b h)
