-- A frame's fields in order, each so many bits of a number (01 "The wire image"; 001 6.6.10.2 to 6.6.10.5).
use Rattle.std.specs.Prelude.{ℕ, ◌+◌, ◌-◌, ◌*◌, ◌/◌, ◌%◌, ◌^◌, Bool, cond, List, [], ◌∷◌, ◌++◌, take, replicate, ltb}
use Rattle.wire.specs.declared.idents.Ident.{Ident}
use Rattle.wire.specs.declared.idents.Ident.TheVariants.{Base, Extended}
use Rattle.wire.specs.declared.frames.Frame.{Frame}
use Rattle.wire.specs.Numbers.{room, srr_noted, r0_noted, base_width, lower_width, code_width, byte_width}
use Rattle.wire.specs.Bits.{bits}
use Rattle.wire.specs.Stuffing.{Coding, dynamic, plain, Coded, all, opposite}

-- a field: how its bits are coded, how many they are, and the number that they are bits of
pub record Span : Type 0 where
  pub how : Coding
  pub width : ℕ
  pub value : ℕ

-- in the stuffed part, and behind it
abbrev pub field : ℕ → ℕ → Span
field w v = record { how = dynamic; width = w; value = v }

abbrev pub bare : ℕ → ℕ → Span
bare w v = record { how = plain; width = w; value = v }

-- the bits of fields as they are, and as they are coded
abbrev pub raw : List Span → List ℕ
raw [] = []
raw (s ∷ ss) = bits s.width s.value ++ raw ss

abbrev pub coded : List Span → List Coded
coded [] = []
coded (s ∷ ss) = all s.how (bits s.width s.value) ++ coded ss

-- THE NOTED BITS of an extended frame, a sum: 4 if SRR came dominant, 1 if r0 came recessive (W-201)
abbrev pub noted_sum : (srr r0 : ℕ) → ℕ
noted_sum srr r0 = opposite srr * srr_noted + r0 * r0_noted

-- and each of the two by the sum
abbrev noting : ℕ → ℕ → ℕ
noting weight noted = noted / weight % 2

abbrev pub srr : ℕ → ℕ
srr noted = opposite (noting srr_noted noted)

abbrev pub r0 : ℕ → ℕ
r0 noted = noting r0_noted noted

-- RTR is 0 for data, 1 for remote
abbrev pub rtr : Bool → ℕ
rtr remote = cond remote 1 0

-- FDF (001 6.6.10.3) is r0 of a base frame and r1 of an extended one: dominant, or a newer format has begun
abbrev pub fdf : Span
fdf = field 1 0

-- the upper 11 bits of an extended identifier, and the lower 18
abbrev pub upper : ℕ → ℕ
upper i = i / 2 ^ lower_width

abbrev pub lower : ℕ → ℕ
lower i = i % 2 ^ lower_width

abbrev pub joined : (upper lower : ℕ) → ℕ
joined upper lower = upper * 2 ^ lower_width + lower

-- behind the start of frame, to the bit before FDF; a base frame has no SRR
abbrev pub before_fdf : Ident → (remote : Bool) → (srr : ℕ) → List Span
before_fdf (Base i) remote srr = field base_width i.0 ∷ field 1 (rtr remote) ∷ field 1 0 ∷ []
before_fdf (Extended i) remote srr =
    field base_width (upper i.0)
    ∷ field 1 srr
    ∷ field 1 1
    ∷ field lower_width (lower i.0)
    ∷ field 1 (rtr remote)
    ∷ []

-- behind FDF, to the length code
abbrev behind_fdf : Ident → (code noted : ℕ) → List Span
behind_fdf (Base i) code noted = field code_width code ∷ []
behind_fdf (Extended i) code noted = field 1 (r0 noted) ∷ field code_width code ∷ []

-- behind the start of frame, to the length code
abbrev pub header : Ident → Bool → ℕ → ℕ → List Span
header i remote code noted = before_fdf i remote (srr noted) ++ (fdf ∷ behind_fdf i code noted)

-- a data frame carries as many bytes as the length code says, 8 for codes 9 to 15; a remote frame carries none
abbrev pub carried : Bool → ℕ → ℕ
carried remote code = cond remote 0 (cond (ltb code room) code room)

abbrev pub carried_bytes : Frame → List ℕ
carried_bytes f = take (carried f.remote f.code) f.bytes

-- the first n bytes of a record, and 0 behind them
abbrev pub trimmed : ℕ → List ℕ → List ℕ
trimmed n bytes = take n bytes ++ replicate (room - n) 0

abbrev pub data_fields : List ℕ → List Span
data_fields [] = []
data_fields (b ∷ bs) = field byte_width b ∷ data_fields bs
