-- Laws of the counts: where `raised` is T + 8, and that an acknowledge error of an active station raises T so.
use Rattle.std.specs.Prelude.{ℕ, ◌+◌, ◌≡◌, refl, Bool, true, false, ◌||◌}
use Rattle.std.proofs.Common.{arith, true≢false, le-ltb, ltb-false}
use Rattle.counts.specs.Numbers.{raise, passive_above, off_above}
use Rattle.counts.specs.Counts.{off, is_passive, raised, unacknowledged}

pub raised_on : (t : ℕ) → off t ≡ false → raised t ≡ t + raise
raised_on t h = rw h

first_false : (a b : Bool) → (a || b) ≡ false → a ≡ false
first_false true b h = absurd (true≢false h)
first_false false b h = refl

-- a station that is not passive is not bus-off either
pub raised_active : (t r : ℕ) → is_passive t r ≡ false → raised t ≡ unacknowledged t r
raised_active t r h = rw (h, raised_on t (le-ltb off_above t (omega (arith, ltb-false passive_above t (first_false _ _ h)))))
