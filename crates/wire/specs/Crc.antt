-- The cyclic check (01 "The wire image"; 001 6.6.4.4), for any width w of the register, generator g without its top term, and start.
use Rattle.std.specs.Prelude.{ℕ, ◌-◌, ◌*◌, ◌%◌, ◌^◌, List, [], ◌∷◌, cond, eqb}
use Rattle.wire.specs.Bits.{bit_at, xors}
use Rattle.wire.specs.Numbers.{crc_width, crc_generator, crc_start}

-- one bit more: the register is shifted left, and the generator added where the bit differs from the register's top bit
unfoldable pub crc_step : ℕ → ℕ → ℕ → ℕ → ℕ
crc_step w g r b =
    cond (eqb (bit_at r (w - 1)) b)
    (r % 2 ^ (w - 1) * 2)
    (xors w (r % 2 ^ (w - 1) * 2) g)

-- the register after some bits, from r
abbrev pub crc_from : ℕ → ℕ → ℕ → List ℕ → ℕ
crc_from w g r [] = r
crc_from w g r (b ∷ bs) = crc_from w g (crc_step w g r b) bs

-- the check of classical frames
abbrev pub crc : List ℕ → ℕ
crc bs = crc_from crc_width crc_generator crc_start bs
