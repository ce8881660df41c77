-- Laws of any layout: a reader given the bits of a way stands at its end, and one that stands at an end was given those bits.
use Rattle.std.proofs.Common.{sym, ◌∙◌, pow-suc, lit<, lt-ltb, le-ltb, ltb-true, ltb-false, ℕ, zero, suc, ◌+◌, ◌-◌, ◌*◌, ◌/◌, ◌%◌, ◌^◌, ◌<◌, ◌≤◌, List, [], ◌∷◌, ◌++◌, append-nil, append_assoc, arith}
use Rattle.std.specs.Prelude.{◌≡◌, refl, Bool, true, false, cond, ltb}
use Rattle.std.proofs.Math.Path.{ap, subst}
use Rattle.std.proofs.Math.Nat.{sub_self, sub-zero}
use Rattle.std.proofs.Math.Arith.{digits_lt}
use Rattle.wire.specs.Bits.{bits}
use Rattle.wire.proofs.BitsLaws.{bits-snoc, half-lt}
use Rattle.wire.specs.Fields.{Span, field, raw}
use Rattle.wire.specs.Layout.{Layout, done, part, newer, Way, end, along, Walker, wide, enter, took, takes}

-- READING A WAY

pub takes-append : {A : Type 0} (r : Walker A) (xs ys : List ℕ) → takes r (xs ++ ys) ≡ takes (takes r xs) ys
takes-append r [] ys = refl
takes-append r (x ∷ xs) ys = takes-append (took r x) xs ys

-- a field is to be read
abbrev pub Open : {A : Type 0} → Layout A → Type 0
Open (done a) = ⊥
Open (part w k) = Unit {0}
Open newer = ⊥

pub open_part : {A : Type 0} (P : Layout A → Type 0) (l : Layout A) → Open l → ((w : ℕ) (k : ℕ → Layout A) → P (part w k)) → P l
open_part P (done a) o f = absurd o
open_part P (part w k) o f = f w k
open_part P newer o f = absurd o

-- one is, before each of these bits
abbrev pub Alive : {A : Type 0} → Walker A → List ℕ → Type 0
Alive r [] = Unit {0}
Alive r (b ∷ bs) = Open r.rest × Alive (took r b) bs

pub record Reads {A : Type 0} (r : Walker A) (xs : List ℕ) (r' : Walker A) : Type 0 where
  pub ends : takes r xs ≡ r'
  pub alive : Alive r xs

alive-append : {A : Type 0} (r : Walker A) (xs ys : List ℕ) → Alive r xs → Alive (takes r xs) ys → Alive r (xs ++ ys)
alive-append r [] ys p q = q
alive-append r (x ∷ xs) ys p q = (p.0, alive-append (took r x) xs ys p.1 q)

pub then : {A : Type 0} {r r' r'' : Walker A} {xs ys : List ℕ} → Reads r xs r' → Reads r' ys r'' → Reads r (xs ++ ys) r''
then {A} {r} {r'} {r''} {xs} {ys} a b =
    record {
      ends = takes-append r xs ys ∙ ap (λ (s : Walker A). takes s ys) a.ends ∙ b.ends;
      alive = alive-append r xs ys a.alive (subst (λ (s : Walker A). Alive s ys) (sym a.ends) b.alive);
    }

pub nothing_read : {A : Type 0} {r : Walker A} → Reads r [] r
nothing_read = record { ends = refl; alive = tt }

module _ {A : Type 0} (w : ℕ) (k : ℕ → Layout A) where
  abbrev inside : ℕ → ℕ → Walker A
  inside left v = record { rest = part w k; left = left; value = v }

  reads_part : (n v : ℕ) → v < 2 ^ n → n < w → Reads (inside w 0) (bits n v) (inside (w - n) v)
  unfolding bits
  reads_part zero v h q = let z : v ≡ 0 = omega (arith, h) in record { ends = rw (z, sub-zero); alive = tt }
  reads_part (suc n) v h q =
      let e : 1 < w - n = omega arith in
      let d : v / 2 * 2 + v % 2 ≡ v = omega arith in
      let m : w - n - 1 ≡ w - suc n = omega arith in
      let one : Reads (inside (w - n) (v / 2)) (v % 2 ∷ []) (inside (w - suc n) v) = record { ends = rw (lt-ltb 1 (w - n) e, d, m); alive = (tt, tt) } in
      subst (λ (xs : List ℕ). Reads (inside w 0) xs (inside (w - suc n) v)) (sym (bits-snoc n (v / 2) (v % 2) (omega arith)) ∙ ap (bits (suc n)) d)
      (then (reads_part n (v / 2) (half-lt n h) (omega arith)) one)

pub reads_field : {A : Type 0} (w : ℕ) (k : ℕ → Layout A) (v : ℕ) → 0 < w → v < 2 ^ w → Reads (enter (part w k)) (bits w v) (enter (k v))
reads_field zero k v z h = absurd (omega arith)
reads_field (suc n) k v z h =
    let e : suc n - n ≤ 1 = omega arith in
    let d : v / 2 * 2 + v % 2 ≡ v = omega arith in
    let one : Reads (inside (suc n) k (suc n - n) (v / 2)) (v % 2 ∷ []) (enter (k v)) = record { ends = rw (le-ltb 1 (suc n - n) e, d); alive = (tt, tt) } in
    subst (λ (xs : List ℕ). Reads (enter (part (suc n) k)) xs (enter (k v))) (sym (bits-snoc n (v / 2) (v % 2) (omega arith)) ∙ ap (bits (suc n)) d)
    (then (reads_part (suc n) k n (v / 2) (half-lt n h) (omega arith)) one)

pub reads_way : {A : Type 0} (l : Layout A) (y : Way l) → Reads (enter l) (raw (along l y)) (enter (done (end l y)))
reads_way (done a) y = nothing_read
reads_way (part w k) y = then (reads_field w k y.0 y.1 y.2) (reads_way (k y.0) y.3)
reads_way newer y = absurd y

-- WHERE A READER STANDS

-- from the layout l, past these fields, to the layout t
pub data On {A : Type 0} (l : Layout A) : Layout A → List Span → Type 0 where
  new : On l l []
  next : (w : ℕ) (k : ℕ → Layout A) (ss : List Span) (v : ℕ) → On l (part w k) ss → 0 < w → v < 2 ^ w → On l (k v) (ss ++ (field w v ∷ []))

-- no field is empty
abbrev pub Sized : {A : Type 0} → Layout A → Type 0
Sized (done a) = Unit {0}
Sized (part w k) = (0 < w) × ((v : ℕ) → Sized (k v))
Sized newer = Unit {0}

-- it has taken the bits xs: those of the fields past, and of the field that it is in
pub record Stood {A : Type 0} (l : Layout A) (r : Walker A) (xs : List ℕ) : Type 0 where
  pub past : List Span
  pub on : On l r.rest past
  pub sized : Sized r.rest
  pub same : xs ≡ raw past ++ bits (wide r.rest - r.left) r.value
  pub most : r.left ≤ wide r.rest
  pub small : r.value < 2 ^ (wide r.rest - r.left)
  -- and some of that field's bits are to come
  pub some : 0 < wide r.rest → 0 < r.left

raw-snoc : (ss : List Span) (s : Span) → raw (ss ++ (s ∷ [])) ≡ raw ss ++ bits s.width s.value
raw-snoc [] s = append-nil (bits s.width s.value)
raw-snoc (x ∷ ss) s =
    ap (λ (l : List ℕ). bits x.width x.value ++ l) (raw-snoc ss s)
    ∙ sym (append_assoc (bits x.width x.value) (raw ss) (bits s.width s.value))

bits-none : (v : ℕ) → bits 0 v ≡ []
unfolding bits
bits-none v = refl

module _ {A : Type 0} (l : Layout A) where
  pub stood_enter : (t : Layout A) (ss : List Span) (xs : List ℕ) → On l t ss → Sized t → xs ≡ raw ss → Stood l (enter t) xs
  stood_enter t ss xs o z e =
      let n : wide t - wide t ≡ 0 = sub_self (wide t) in
      record {
        past = ss;
        on = o;
        sized = z;
        same = e ∙ sym (append-nil (raw ss)) ∙ ap (λ (c : List ℕ). raw ss ++ c) (sym (ap (λ (m : ℕ). bits m 0) n ∙ bits-none 0));
        most = omega arith;
        small = rw n (lit< tt);
        some = λ (h : 0 < wide t). h;
      }

  pub stood_new : Sized l → Stood l (enter l) []
  stood_new z = stood_enter l [] [] new z refl

  -- a bit taken is appended
  stood_took : (w : ℕ) (k : ℕ → Layout A) (left v b : ℕ) (xs : List ℕ) → Stood l (inside w k left v) xs → b < 2
      → Stood l (took (inside w k left v) b) (xs ++ (b ∷ []))
  stood_took w k left v b xs s h = go (ltb 1 left) refl
    where
      z : 0 < left
      z = s.some s.sized.0

      more : (m : ℕ) → m ≡ suc (w - left) → xs ++ (b ∷ []) ≡ raw s.past ++ bits m (v * 2 + b)
      more m e =
          ap (λ (c : List ℕ). c ++ (b ∷ [])) s.same
          ∙ append_assoc (raw s.past) (bits (w - left) v) (b ∷ [])
          ∙ ap (λ (c : List ℕ). raw s.past ++ c) (sym (ap (λ (n : ℕ). bits n (v * 2 + b)) e ∙ bits-snoc (w - left) v b h))

      less : (m : ℕ) → m ≡ suc (w - left) → v * 2 + b < 2 ^ m
      less m e = rw e (omega (arith, pow-suc 2 (w - left), digits_lt s.small h))

      go : (t : Bool) → ltb 1 left ≡ t → Stood l (cond t (inside w k (left - 1) (v * 2 + b)) (enter (k (v * 2 + b)))) (xs ++ (b ∷ []))
      go true e =
          let m : w - (left - 1) ≡ suc (w - left) = omega (arith, ltb-true 1 left e, s.most) in
          let q : 1 < left = ltb-true 1 left e in
          record {
            past = s.past;
            on = s.on;
            sized = s.sized;
            same = more (w - (left - 1)) m;
            most = omega (arith, s.most);
            small = less (w - (left - 1)) m;
            some = λ (_ : 0 < w). omega arith;
          }
      go false e =
          let m : w ≡ suc (w - left) = omega (arith, ltb-false 1 left e, s.most, z) in
          let f : Span = field w (v * 2 + b) in
          stood_enter (k (v * 2 + b)) (s.past ++ (f ∷ [])) (xs ++ (b ∷ []))
          (next w k s.past (v * 2 + b) s.on s.sized.0 (less w m))
          (s.sized.1 (v * 2 + b))
          (more w m ∙ sym (raw-snoc s.past f))

  pub stood_open : (r : Walker A) (b : ℕ) (xs : List ℕ) → Open r.rest → Stood l r xs → b < 2 → Stood l (took r b) (xs ++ (b ∷ []))
  stood_open r b xs o s h =
      open_part (λ (t : Layout A). Stood l (record { rest = t; left = r.left; value = r.value }) xs → Stood l (took (record { rest = t; left = r.left; value = r.value }) b) (xs ++ (b ∷ []))) r.rest o
      (λ (w : ℕ) (k : ℕ → Layout A) (t : Stood l (inside w k r.left r.value) xs). stood_took w k r.left r.value b xs t h)
      s

  -- a way to where the fields lead
  on_way : (t : Layout A) (ss : List Span) → On l t ss → (z : Way t) → (y : Way l) × (end l y ≡ end t z) × (along l y ≡ ss ++ along t z)
  on_way t ss new z = (z, refl, refl)
  on_way t ss (next w k rs v o q h) z =
      let m = on_way (part w k) rs o (v, q, h, z) in
      (m.0, m.1, m.2 ∙ sym (append_assoc rs (field w v ∷ []) (along (k v) z)))

  -- a reader at an end has taken the bits of a way to it
  pub stood_end : (a : A) (left v : ℕ) (xs : List ℕ) → Stood l (record { rest = done a; left = left; value = v }) xs
      → (y : Way l) × (end l y ≡ a) × (xs ≡ raw (along l y))
  stood_end a left v xs s =
      let m = on_way (done a) s.past s.on tt in
      let n : 0 - left ≡ 0 = omega arith in
      (m.0, m.1, s.same ∙ ap (λ (c : List ℕ). raw s.past ++ c) (ap (λ (i : ℕ). bits i v) n ∙ bits-none v) ∙ append-nil (raw s.past) ∙ ap raw (sym (m.2 ∙ append-nil s.past)))
