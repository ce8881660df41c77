-- The stuffed part of the table: it goes on while a field is to be read, and where it ends the bits are those of the fields read.
use Rattle.std.proofs.Common.{ℕ, ◌≡◌, refl, sym, ap, subst, ◌∙◌, true, false, List, arith, eqb}
use Rattle.std.proofs.lemmas.Bool.{false≢true}
use Rattle.wire.specs.Numbers.{five}
use Rattle.wire.specs.Stuffing.{none, ran_from}
use Rattle.wire.specs.Fields.{raw}
use Rattle.wire.specs.Layout.{Layout, done, part, newer, is_newer, Walker, enter, takes, Got, frames}
use Rattle.wire.proofs.LayoutLaws.{Open, open_part, Stood, stood_end}
use Rattle.wire.proofs.FramesLaws.{got_fields, GotIn, frames-told}
use Rattle.claims.specs.Table.{stuffed, crc_delimiter, reading, newer_begun, ended, onward}

abbrev pub walker : List ℕ → Walker Got
walker xs = takes (enter frames) xs

pub onward_open : (s : List ℕ) → Open (reading s) → onward s ≡ stuffed s
onward_open s o = open_part (λ (l : Layout Got). ended l s ≡ stuffed s) (reading s) o (λ _ _. refl)

-- and while a stuff bit is due
pub onward-due : (s : List ℕ) → eqb (ran_from none s).len five ≡ true → newer_begun s ≡ false → onward s ≡ stuffed s
onward-due s e n = go (reading s) n
  where
    go : (l : Layout Got) → is_newer l ≡ false → ended l s ≡ stuffed s
    go (done g) n = rw e
    go (part w k) n = refl
    go newer n = absurd (false≢true (sym n))

pub open_onward : (s : List ℕ) → eqb (ran_from none s).len five ≡ false → onward s ≡ stuffed s → Open (reading s)
open_onward s e stay = go (reading s) stay
  where
    go : (l : Layout Got) → ended l s ≡ stuffed s → Open l
    go (done g) q = let d : crc_delimiter g ≡ stuffed s = sym (rw e) ∙ q in let n : ◌≡◌ {A = ℕ} 0 1 = cc in absurd (omega arith)
    go (part w k) q = tt
    go newer q = let n : ◌≡◌ {A = ℕ} 0 1 = cc in absurd (omega arith)

-- where a field is to be read no newer format has begun
pub open_old : (l : Layout Got) → Open l → is_newer l ≡ false
open_old l o = open_part (λ (x : Layout Got). is_newer x ≡ false) l o (λ _ _. refl)

pub whole-bits : (xs : List ℕ) (g : Got) → Stood frames (walker xs) xs → (walker xs).rest ≡ done g → (xs ≡ raw (got_fields g)) × GotIn g
whole-bits xs g s e =
    let w : Walker Got = walker xs in
    let y = stood_end frames g w.left w.value xs (subst (λ (l : Layout Got). Stood frames (record { rest = l; left = (walker xs).left; value = (walker xs).value }) xs) e s) in
    let t = frames-told y.0 in
    (y.2 ∙ ap raw (t.1 ∙ ap got_fields y.1), subst GotIn y.1 t.0)
