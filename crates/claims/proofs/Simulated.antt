-- The code's reader, bit by bit, reads as the reader of the layout does.
use Rattle.std.proofs.Common.{ℕ, suc, ◌+◌, ◌-◌, ◌*◌, ◌^◌, ◌<◌, ◌≤◌, ◌≡◌, refl, sym, ap, subst, ◌∙◌, Bool, true, false, cond, List, arith, mod-eq_of_lt, pow-suc, eqb, ltb, lit<, ltb-false, le-ltb}
use Rattle.std.proofs.lemmas.Bool.{false≢true}
use Rattle.std.proofs.Math.Nat.{pow-le-pow_right}
use Rattle.std.proofs.Math.Arith.{digits_lt}
use Rattle.wire.specs.Layout.{Layout, done, part, newer, is_newer, Walker, wide, took, Got, frames}
use Rattle.wire.proofs.LayoutLaws.{Open, open_part, Stood}
use Rattle.reader.specs.declared.fields.Field.{Field}
use Rattle.reader.specs.declared.fields.Field.TheVariants.{Upper, Srr, Ide, Lower, Rtr, Fdf, R0, Code, Data, Crc, Done}
use Rattle.reader.specs.declared.registers.Registers.{Registers}
use Rattle.reader.specs.declared.readers.Reader.{Reader}
use Rattle.reader.specs.Reader.{width_of, is_fdf, put_of, kept_of, next_of, shifted, took_of}
use Rattle.listener.specs.Listener.{kept_in}
use Rattle.claims.proofs.Follows.{is_taken, Behind, Follows}
use Rattle.claims.proofs.Parts.{is_done_lem}

-- FIELDS

narrow : (f : Field) → width_of f ≤ 18
narrow Upper = omega arith
narrow Srr = omega arith
narrow Ide = omega arith
narrow Lower = omega arith
narrow Rtr = omega arith
narrow Fdf = omega arith
narrow R0 = omega arith
narrow Code = omega arith
narrow (Data i) = omega arith
narrow Crc = omega arith
narrow Done = omega arith

fdf-wide : (f : Field) → is_fdf f ≡ true → width_of f ≡ 1
fdf-wide Upper e = absurd (false≢true e)
fdf-wide Srr e = refl
fdf-wide Ide e = refl
fdf-wide Lower e = absurd (false≢true e)
fdf-wide Rtr e = refl
fdf-wide Fdf e = refl
fdf-wide R0 e = refl
fdf-wide Code e = absurd (false≢true e)
fdf-wide (Data i) e = absurd (false≢true e)
fdf-wide Crc e = absurd (false≢true e)
fdf-wide Done e = absurd (false≢true e)

pub wide_is : (f : Field) (g : Registers) (bytes : List ℕ) (l : Layout Got) → Follows f g bytes l → width_of f ≡ wide l
wide_is f g bytes (done a) k = ap width_of (is_done_lem f k.0)
wide_is f g bytes (part w n) k = k.1
wide_is f g bytes newer k = absurd k

-- ONE READER FOLLOWS THE OTHER

pub record Sim (r : Reader) (bytes : List ℕ) (w : Walker Got) : Type 0 where
  pub follows : Follows r.field r.registers bytes w.rest
  pub left : r.left ≡ w.left
  pub value : r.value ≡ w.value

-- what is followed is no newer format
pub sim_old : (r : Reader) (bytes : List ℕ) (w : Walker Got) → Sim r bytes w → is_newer w.rest ≡ false
sim_old r bytes w s = go w.rest s.follows
  where
    go : (l : Layout Got) → Follows r.field r.registers bytes l → is_newer l ≡ false
    go (done a) k = refl
    go (part n m) k = refl
    go newer k = absurd k

module _ (r : Reader) (bytes : List ℕ) (n : ℕ) (k : ℕ → Layout Got) (left v b : ℕ) (xs : List ℕ) where
  abbrev at : Walker Got
  at = record { rest = part n k; left = left; value = v }

  -- the field with this bit, and the reader that follows where the bit is taken
  abbrev whole : ℕ
  whole = v * 2 + b

  abbrev registers : Registers
  registers = put_of r.registers r.field whole

  abbrev Next : Type 0
  Next = Follows (next_of registers r.field) registers (kept_in bytes (kept_of r.field whole)) (k whole)

  module _ (s : Sim r bytes at) (o : Stood frames at xs) (h : b < 2) where
    some : 0 < left
    some = o.some o.sized.0

    less : ltb 1 left ≡ false → whole < 2 ^ n
    less e =
        let m : n ≡ suc (n - left) = omega (arith, ltb-false 1 left e, o.most, some) in
        rw m (omega (arith, pow-suc 2 (n - left), digits_lt o.small h))

    -- FDF has one bit
    one_bit : is_fdf r.field ≡ true → (ltb 1 left ≡ false) × (whole ≡ b)
    one_bit e =
        let w : n ≡ 1 = sym s.follows.1 ∙ fdf-wide r.field e in
        let m : n - left ≡ 0 = omega (arith, some) in
        let z : v < 2 ^ 0 = subst (λ (j : ℕ). v < 2 ^ j) m o.small in
        (le-ltb 1 left (omega (arith, o.most)), omega arith)

    behind : (t : Bool) → is_taken r.field b ≡ t → ltb 1 left ≡ false → Behind t (k whole) Next
    behind t q e = subst (λ (x : Bool). Behind x (k whole) Next) (same (is_fdf r.field) refl ∙ q) (s.follows.2 whole (less e))
      where
        same : (f : Bool) → is_fdf r.field ≡ f → cond f (eqb whole 0) true ≡ cond f (eqb b 0) true
        same true e = ap (λ (x : ℕ). eqb x 0) (one_bit e).1
        same false e = refl

    newer_part : is_taken r.field b ≡ false → (took at b).rest ≡ newer
    newer_part q = go (is_fdf r.field) refl
      where
        go : (t : Bool) → is_fdf r.field ≡ t → (took at b).rest ≡ newer
        go true e = rw (one_bit e).0 (behind false q (one_bit e).0)
        go false e = absurd (false≢true (sym q ∙ rw e))

    sim_part : is_taken r.field b ≡ true → Sim (took_of r b).reader (kept_in bytes (took_of r b).kept) (took at b)
    sim_part q = go (ltb 1 left) refl
      where
        small : v < 2 ^ 17
        small =
            let e : n - left ≤ 17 = omega (arith, narrow r.field, s.follows.1, some) in
            let p : 2 ^ (n - left) ≤ 2 ^ 17 = pow-le-pow_right (lit< tt) {j = 17} e in
            omega (arith, o.small)

        shift : shifted r.value b ≡ whole
        shift = rw (s.value, mod-eq_of_lt small, mod-eq_of_lt h)

        go : (t : Bool) → ltb 1 left ≡ t → Sim (took_of r b).reader (kept_in bytes (took_of r b).kept) (took at b)
        go true e =
            let e' : ltb 1 r.left ≡ true = ap (ltb 1) s.left ∙ e in
            rw (e', e, shift) (record { follows = s.follows; left = ap (λ (m : ℕ). m - 1) s.left; value = refl })
        go false e =
            let e' : ltb 1 r.left ≡ false = ap (ltb 1) s.left ∙ e in
            let f : Next = behind true q e in
            rw (e', e, shift)
            (record { follows = f; left = wide_is (next_of registers r.field) registers (kept_in bytes (kept_of r.field whole)) (k whole) f; value = refl })

module _ (r : Reader) (bytes : List ℕ) (w : Walker Got) (b : ℕ) (xs : List ℕ) (o : Open w.rest) (s : Sim r bytes w) (t : Stood frames w xs) (h : b < 2) where
  abbrev resting : Layout Got → Walker Got
  resting l = record { rest = l; left = w.left; value = w.value }

  -- a bit that is not taken begins a newer format
  pub newer_took : is_taken r.field b ≡ false → (took w b).rest ≡ newer
  newer_took q =
      open_part (λ (l : Layout Got). Sim r bytes (resting l) → Stood frames (resting l) xs → (took (resting l) b).rest ≡ newer) w.rest o
      (λ (n : ℕ) (k : ℕ → Layout Got) (x : Sim r bytes (resting (part n k))) (y : Stood frames (resting (part n k)) xs). newer_part r bytes n k w.left w.value b xs x y h q)
      s t

  -- one that is taken is taken by both
  pub sim_took : is_taken r.field b ≡ true → Sim (took_of r b).reader (kept_in bytes (took_of r b).kept) (took w b)
  sim_took q =
      open_part (λ (l : Layout Got). Sim r bytes (resting l) → Stood frames (resting l) xs → Sim (took_of r b).reader (kept_in bytes (took_of r b).kept) (took (resting l) b)) w.rest o
      (λ (n : ℕ) (k : ℕ → Layout Got) (x : Sim r bytes (resting (part n k))) (y : Stood frames (resting (part n k)) xs). sim_part r bytes n k w.left w.value b xs x y h q)
      s t
