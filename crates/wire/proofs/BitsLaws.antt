-- Laws of bits and numbers, each over any width.
use Rattle.std.specs.Prelude.{ℕ, zero, suc, ◌+◌, ◌-◌, ◌*◌, ◌/◌, ◌%◌, ◌^◌, ◌<◌, ◌≤◌, ◌≡◌, refl, List, [], ◌∷◌, ◌++◌, length}
use Rattle.std.proofs.Common.{sym, ap, ◌∙◌, pow-suc, zero-add, suc-add, add_comm, mul_comm, mul_assoc, mod-eq_of_lt, not-suc-le-zero, add-one, sub-one, arith, lit<, pow_pos, pow_mono, shr-shr}
use Rattle.std.proofs.Math.Nat.{add-mul-div_right, mul-add-mod_self_right, div-eq_of_lt}
use Rattle.std.proofs.Math.Arith.{lt-one, digits_lt, digits_div, digits_mod}
use Rattle.std.specs.Int.Bits.{bit_xor, differ, xor_step}
use Rattle.std.proofs.Math.Pow.{high}
use Rattle.std.proofs.lemmas.Nat.{mod-pow-add}
use Rattle.wire.specs.Bits.{bit_at, bits, number_from, number, xors}

-- BITS

pub length_bits : (w v : ℕ) → length (bits w v) ≡ w
unfolding bits
length_bits zero v = refl
length_bits (suc w) v = ap suc (length_bits w _)

-- the next bit of a count down
pub bits-step : (n v : ℕ) → 0 < n → bits n v ≡ bit_at v (n - 1) ∷ bits (n - 1) v
unfolding bits
bits-step zero v h = absurd (not-suc-le-zero h)
bits-step (suc n) v h = simp sub-one

-- what stands above the w low bits is no part of them
pub bits_low : (w x y : ℕ) → bits w (x * 2 ^ w + y) ≡ bits w y
unfolding bits
bits_low zero x y = refl
bits_low (suc w) x y =
    let e : x * 2 ^ suc w + y ≡ x * 2 * 2 ^ w + y = rw (pow-suc, mul_comm (2 ^ w) 2, ← mul_assoc x 2 (2 ^ w)) in
    let d : (x * 2 * 2 ^ w + y) / 2 ^ w % 2 ≡ y / 2 ^ w % 2 =
    rw (add_comm (x * 2 * 2 ^ w) y, add-mul-div_right y (x * 2) (pow_pos w), add_comm (y / 2 ^ w) (x * 2), mul-add-mod_self_right x 2 (y / 2 ^ w)) in
    rw (e, d, bits_low w (x * 2) y)

-- two fields side by side are one
pub bits-append : (a b x y : ℕ) → y < 2 ^ b → bits (a + b) (x * 2 ^ b + y) ≡ bits a x ++ bits b y
unfolding bits
bits-append zero b x y h = rw zero-add (bits_low b x y)
bits-append (suc a) b x y h =
    let d : (x * 2 ^ b + y) / 2 ^ (a + b) ≡ x / 2 ^ a = rw (add_comm a b, ← shr-shr (x * 2 ^ b + y) b a, high x b h) in
    rw (suc-add, d, bits-append a b x y h)

-- one bit more at the low end
pub bits-snoc : (w v b : ℕ) → b < 2 → bits (suc w) (v * 2 + b) ≡ bits w v ++ (b ∷ [])
unfolding bits
bits-snoc w v b h =
    let e : bit_at b 0 ≡ b = omega arith in
    let one : bits 1 b ≡ b ∷ [] = ap (λ (n : ℕ). n ∷ []) e in
    ap (λ (n : ℕ). bits n (v * 2 + b)) (sym (add-one w))
    ∙ bits-append w 1 v b h
    ∙ ap (λ (l : List ℕ). bits w v ++ l) one

pub bit-lt : (v n : ℕ) → bit_at v n < 2
bit-lt v n = omega arith

-- a number has no bits above its width
pub bit_above : (w v n : ℕ) → v < 2 ^ w → w ≤ n → bit_at v n ≡ 0
bit_above w v n h k =
    let l : v < 2 ^ n = omega (arith, pow_mono k) in
    ap (λ (i : ℕ). i % 2) (div-eq_of_lt l)

-- so a number of 64 bits has none from bit 64 on
pub no_bit_from_64 : (v n : ℕ) → v < 2 ^ 64 → 64 ≤ n → 0 ≡ bit_at v n
no_bit_from_64 v n h k = sym (bit_above 64 v n h k)

pub half-lt : (w : ℕ) {a : ℕ} → a < 2 ^ suc w → a / 2 < 2 ^ w
half-lt w p = omega (arith, pow-suc 2 w)

-- NUMBERS

-- each is 0 or 1
abbrev pub AllBits : List ℕ → Type 0
AllBits [] = Unit {0}
AllBits (b ∷ bs) = (b < 2) × AllBits bs

pub all_bits-append : (xs ys : List ℕ) → AllBits xs → AllBits ys → AllBits (xs ++ ys)
all_bits-append [] ys p q = q
all_bits-append (x ∷ xs) ys p q = (p.0, all_bits-append xs ys p.1 q)

pub bits_are : (w v : ℕ) → AllBits (bits w v)
unfolding bits
bits_are zero v = tt
bits_are (suc w) v = (bit-lt v w, bits_are w v)

number_from_lem : (n w v : ℕ) → number_from n (bits w v) ≡ n * 2 ^ w + v % 2 ^ w
unfolding bits
number_from_lem n zero v = omega arith
number_from_lem n (suc w) v =
    let m : v % 2 ^ suc w ≡ bit_at v w * 2 ^ w + v % 2 ^ w = ap (λ (k : ℕ). v % 2 ^ k) (sym (add-one w) ∙ add_comm w 1) ∙ mod-pow-add v 1 w in
    let p : n * 2 ^ suc w ≡ n * 2 * 2 ^ w = rw (pow-suc, mul_comm (2 ^ w) 2, ← mul_assoc n 2 (2 ^ w)) in
    number_from_lem (n * 2 + bit_at v w) w v ∙ regroup (n * 2) (bit_at v w) (2 ^ w) (v % 2 ^ w) ∙ rw (p, m)
  where
    regroup : (a b c d : ℕ) → (a + b) * c + d ≡ a * c + (b * c + d)
    regroup a b c d = omega arith

-- a field read from its bits is its value
pub number-bits : (w v : ℕ) → v < 2 ^ w → number (bits w v) ≡ v
number-bits w v h = number_from_lem 0 w v ∙ omega (arith, mod-eq_of_lt h)

-- bits behind a number leave it in front of them
number-front : (n : ℕ) (bs : List ℕ) → AllBits bs → number_from n bs / 2 ^ length bs ≡ n
number-front n [] h = omega arith
number-front n (b ∷ bs) h =
    let m : ℕ = number_from (n * 2 + b) bs in
    let k : ℕ = length bs in
    ap (λ (i : ℕ). m / 2 ^ i) (sym (add-one k))
    ∙ sym (shr-shr m k 1)
    ∙ ap (λ (i : ℕ). i / 2) (number-front (n * 2 + b) bs h.1)
    ∙ digits_div n h.0

number_bits_from : (n : ℕ) (bs : List ℕ) → AllBits bs → bits (length bs) (number_from n bs) ≡ bs
unfolding bits
number_bits_from n [] h = refl
number_bits_from n (b ∷ bs) h =
    let top : bit_at (number_from (n * 2 + b) bs) (length bs) ≡ b =
    ap (λ (i : ℕ). i % 2) (number-front (n * 2 + b) bs h.1) ∙ digits_mod n h.0 in
    rw (top, number_bits_from (n * 2 + b) bs h.1)

-- and bits are those of the number that they stand for
pub bits-number : (bs : List ℕ) → AllBits bs → bits (length bs) (number bs) ≡ bs
bits-number bs h = number_bits_from 0 bs h

-- XOR

pub xors_is : (w a b : ℕ) → a < 2 ^ w → b < 2 ^ w → xors w a b ≡ bit_xor a b
unfolding xors
xors_is zero a b p q = rw (lt-one p, lt-one q)
xors_is (suc w) a b p q = rw (xor_step a b, xors_is w (a / 2) (b / 2) (half-lt w p) (half-lt w q))

differ-lt : (a b : ℕ) → a < 2 → b < 2 → differ a b < 2
differ-lt zero b h k = k
differ-lt (suc zero) zero h k = lit< tt
differ-lt (suc zero) (suc b) h k = omega arith
differ-lt (suc (suc a)) b h k = absurd (omega arith)

pub xors-lt : (w a b : ℕ) → xors w a b < 2 ^ w
unfolding xors
xors-lt zero a b = lit< tt
xors-lt (suc w) a b =
    let h : xors w (a / 2) (b / 2) * 2 + differ (a % 2) (b % 2) < 2 ^ w * 2 =
    digits_lt (xors-lt w (a / 2) (b / 2)) (differ-lt (a % 2) (b % 2) (omega arith) (omega arith)) in
    omega (arith, h, pow-suc 2 w)
