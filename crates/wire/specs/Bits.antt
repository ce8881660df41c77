-- Numbers as bits, highest first (01 "The wire image"; 001 6.6.16), and the exclusive or of bits.
use Rattle.std.specs.Prelude.{ℕ, zero, suc, ◌+◌, ◌*◌, ◌/◌, ◌%◌, ◌^◌, List, [], ◌∷◌}
use Rattle.std.specs.Int.Bits.{differ}

-- the bit of v that has weight 2 to the power of n
abbrev pub bit_at : ℕ → ℕ → ℕ
bit_at v n = v / 2 ^ n % 2

-- the w low bits of v, highest first
unfoldable pub bits : ℕ → ℕ → List ℕ
bits zero v = []
bits (suc w) v = bit_at v w ∷ bits w v

-- the number that bits stand for, highest first, behind those that gave v
abbrev pub number_from : ℕ → List ℕ → ℕ
number_from v [] = v
number_from v (b ∷ bs) = number_from (v * 2 + b) bs

abbrev pub number : List ℕ → ℕ
number bs = number_from 0 bs

-- the exclusive or of the w low bits of two numbers
unfoldable pub xors : ℕ → ℕ → ℕ → ℕ
xors zero a b = 0
xors (suc w) a b = xors w (a / 2) (b / 2) * 2 + differ (a % 2) (b % 2)
