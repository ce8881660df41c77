-- A loop that counts down the bits of a field: what is left to do gives the same, and at 0 it is done.
use Rattle.std.proofs.Common.{ℕ, ◌-◌, ◌<◌, ◌≤◌, zero-le, ◌≡◌, sym, ap, ◌∙◌, le_antisymm}
use Rattle.wire.specs.Bits.{bit_at, bits}
use Rattle.wire.proofs.BitsLaws.{bits-step}
use Rattle.wire.specs.Crc.{crc_step, crc_from}

module _ (w g r x : ℕ) where
  pub crc-turn : (r' b n v : ℕ) → 0 < n → b ≡ bit_at v (n - 1) → r' ≡ crc_step w g r b → crc_from w g r (bits n v) ≡ x
      → crc_from w g r' (bits (n - 1) v) ≡ x
  crc-turn r' b n v h d e q = rw (e, d) (sym (ap (crc_from w g r) (bits-step n v h)) ∙ q)

  pub crc-end : (n v : ℕ) → n ≤ 0 → crc_from w g r (bits n v) ≡ x → r ≡ x
  unfolding bits
  crc-end n v h q = ap (λ (k : ℕ). crc_from w g r (bits k v)) (le_antisymm zero-le h) ∙ q

pub ruleset crc_loop = (crc-turn, crc-end)
