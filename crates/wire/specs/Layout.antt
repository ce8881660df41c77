-- The layout of a frame as it is read: a field of so many bits, and what follows by its value; at the end, what was read, or that a
-- newer format has begun.
-- Image and reader meet here: what holds of a layout holds of every frame.
use Rattle.std.specs.Prelude.{ℕ, zero, suc, ◌+◌, ◌-◌, ◌*◌, ◌^◌, ◌<◌, Bool, true, false, cond, List, [], ◌∷◌, eqb, ltb}
use Rattle.wire.specs.declared.idents.Ident.{Ident}
use Rattle.wire.specs.declared.idents.Ident.TheVariants.{Base, Extended}
use Rattle.wire.specs.Numbers.{base_width, lower_width, code_width, byte_width, crc_width}
use Rattle.wire.specs.Fields.{Span, field, noted_sum, joined, carried}

pub data Layout (A : Type 0) : Type 0 where
  done : A → Layout A
  part : ℕ → (ℕ → Layout A) → Layout A
  newer : Layout A

abbrev pub is_newer : {A : Type 0} → Layout A → Bool
is_newer (done a) = false
is_newer (part w k) = false
is_newer newer = true

-- the values of the fields on the way to an end, each in its range; none leads through a newer format
abbrev pub Way : {A : Type 0} → Layout A → Type 0
Way (done a) = Unit {0}
Way (part w k) = (v : ℕ) × (0 < w) × (v < 2 ^ w) × Way (k v)
Way newer = ⊥

abbrev pub end : {A : Type 0} (l : Layout A) → Way l → A
end (done a) y = a
end (part w k) y = end (k y.0) y.3
end newer y = absurd y

abbrev pub along : {A : Type 0} (l : Layout A) → Way l → List Span
along (done a) y = []
along (part w k) y = field w y.0 ∷ along (k y.0) y.3
along newer y = absurd y

-- A READER OF ANY LAYOUT: the field that is being read, how many of its bits are to come, and those that came as a number

pub record Walker (A : Type 0) : Type 0 where
  pub rest : Layout A
  pub left : ℕ
  pub value : ℕ

abbrev pub wide : {A : Type 0} → Layout A → ℕ
wide (done a) = 0
wide (part w k) = w
wide newer = 0

abbrev pub enter : {A : Type 0} → Layout A → Walker A
enter l = record { rest = l; left = wide l; value = 0 }

abbrev pub turn : {A : Type 0} → Layout A → ℕ → Layout A
turn (done a) v = done a
turn (part w k) v = k v
turn newer v = newer

abbrev pub took : {A : Type 0} → Walker A → ℕ → Walker A
took r b =
    cond (ltb 1 r.left)
    (record { rest = r.rest; left = r.left - 1; value = r.value * 2 + b })
    (enter (turn r.rest (r.value * 2 + b)))

abbrev pub takes : {A : Type 0} → Walker A → List ℕ → Walker A
takes r [] = r
takes r (b ∷ bs) = takes (took r b) bs

-- CLASSICAL FRAMES, behind the start of frame

-- what was read
pub record Got : Type 0 where
  pub ident : Ident
  pub remote : Bool
  pub code : ℕ
  pub bytes : List ℕ
  pub noted : ℕ
  pub crc : ℕ

-- n bytes, and what follows by them
abbrev pub bytes_of : {A : Type 0} → ℕ → (List ℕ → Layout A) → Layout A
bytes_of zero k = k []
bytes_of (suc n) k = part byte_width (λ (b : ℕ). bytes_of n (λ (bs : List ℕ). k (b ∷ bs)))

-- length code, data and CRC
abbrev pub rest_of : Ident → Bool → ℕ → Layout Got
rest_of i remote noted =
    part code_width (λ (c : ℕ).
    bytes_of (carried remote c) (λ (bs : List ℕ).
    part crc_width (λ (k : ℕ). done (record { ident = i; remote = remote; code = c; bytes = bs; noted = noted; crc = k }))))

-- FDF, and what follows it where it is dominant
abbrev pub fdf_then : Layout Got → Layout Got
fdf_then l = part 1 (λ (fdf : ℕ). cond (eqb fdf 0) l newer)

-- FDF
abbrev pub base_rest : ℕ → ℕ → Layout Got
base_rest id rtr = fdf_then (rest_of (Base (record { 0 = id })) (eqb rtr 1) 0)

-- the lower 18 identifier bits, RTR, FDF, r0
abbrev pub extended_rest : ℕ → ℕ → Layout Got
extended_rest upper srr =
    part lower_width (λ (lower : ℕ).
    part 1 (λ (rtr : ℕ).
    fdf_then (part 1 (λ (r0 : ℕ).
    rest_of (Extended (record { 0 = joined upper lower })) (eqb rtr 1) (noted_sum srr r0)))))

-- 11 identifier bits, RTR or SRR, IDE
abbrev pub frames : Layout Got
frames =
    part base_width (λ (upper : ℕ).
    part 1 (λ (srr : ℕ).
    part 1 (λ (ide : ℕ).
    cond (eqb ide 0) (base_rest upper srr) (extended_rest upper srr))))
