-- Laws of fields: their bits go part by part, fields that are coded alike are coded as their bits are, and how many bits there are.
use Rattle.std.specs.Prelude.{ℕ, ◌*◌, ◌≤◌, ◌≡◌, refl, Bool, true, false, cond, List, [], ◌∷◌, ◌++◌, ltb, length}
use Rattle.std.proofs.Common.{sym, ap, ap₂, ◌∙◌, append_assoc, arith, length-append, ltb-true}
use Rattle.wire.specs.declared.idents.Ident.{Ident}
use Rattle.wire.specs.declared.idents.Ident.TheVariants.{Base, Extended}
use Rattle.wire.specs.Numbers.{room, byte_width}
use Rattle.wire.specs.Bits.{bits}
use Rattle.wire.proofs.BitsLaws.{length_bits, AllBits, all_bits-append, bits_are}
use Rattle.wire.specs.Stuffing.{Coding, dynamic, Coded, all}
use Rattle.wire.proofs.StuffingLaws.{all-append}
use Rattle.wire.specs.Fields.{Span, raw, coded, header, carried, data_fields}

-- PART BY PART

pub raw-append : (xs ys : List Span) → raw (xs ++ ys) ≡ raw xs ++ raw ys
raw-append [] ys = refl
raw-append (x ∷ xs) ys =
    ap (λ (l : List ℕ). bits x.width x.value ++ l) (raw-append xs ys)
    ∙ sym (append_assoc (bits x.width x.value) (raw xs) (raw ys))

pub coded-append : (xs ys : List Span) → coded (xs ++ ys) ≡ coded xs ++ coded ys
coded-append [] ys = refl
coded-append (x ∷ xs) ys =
    ap (λ (l : List Coded). all x.how (bits x.width x.value) ++ l) (coded-append xs ys)
    ∙ sym (append_assoc (all x.how (bits x.width x.value)) (coded xs) (coded ys))

-- CODED ALIKE
abbrev pub Alike : Coding → List Span → Type 0
Alike c [] = Unit {0}
Alike c (x ∷ xs) = (x.how ≡ c) × Alike c xs

pub alike-append : (c : Coding) (xs ys : List Span) → Alike c xs → Alike c ys → Alike c (xs ++ ys)
alike-append c [] ys p q = q
alike-append c (x ∷ xs) ys p q = (p.0, alike-append c xs ys p.1 q)

pub coded_alike : (c : Coding) (xs : List Span) → Alike c xs → coded xs ≡ all c (raw xs)
coded_alike c [] h = refl
coded_alike c (x ∷ xs) h =
    ap₂ (λ (d : Coding) (l : List Coded). all d (bits x.width x.value) ++ l) h.0 (coded_alike c xs h.1)
    ∙ sym (all-append c (bits x.width x.value) (raw xs))

pub header_stuffed : (i : Ident) (remote : Bool) (code noted : ℕ) → Alike dynamic (header i remote code noted)
header_stuffed (Base i) remote code noted = (refl, (refl, (refl, (refl, (refl, tt)))))
header_stuffed (Extended i) remote code noted = (refl, (refl, (refl, (refl, (refl, (refl, (refl, (refl, tt))))))))

pub data_stuffed : (bs : List ℕ) → Alike dynamic (data_fields bs)
data_stuffed [] = tt
data_stuffed (b ∷ bs) = (refl, data_stuffed bs)

-- EVERY BIT IS 0 OR 1

pub raw-bits : (ss : List Span) → AllBits (raw ss)
raw-bits [] = tt
raw-bits (s ∷ ss) = all_bits-append (bits s.width s.value) (raw ss) (bits_are s.width s.value) (raw-bits ss)

-- LENGTH

pub length_data : (bs : List ℕ) → length (raw (data_fields bs)) ≡ byte_width * length bs
length_data [] = refl
length_data (b ∷ bs) = length-append (bits byte_width b) (raw (data_fields bs)) ∙ omega (arith, length_bits byte_width b, length_data bs)

-- how many bits a header has behind the start of frame
abbrev pub header_bits : Ident → ℕ
header_bits (Base i) = 18
header_bits (Extended i) = 38

pub length_header : (i : Ident) (remote : Bool) (code noted : ℕ) → length (raw (header i remote code noted)) ≡ header_bits i
length_header (Base i) remote code noted = simp (length-append, length_bits)
length_header (Extended i) remote code noted = simp (length-append, length_bits)

pub carried-le : (remote : Bool) (code : ℕ) → carried remote code ≤ room
carried-le true code = omega arith
carried-le false code = go (ltb code room) refl
  where
    go : (t : Bool) → ltb code room ≡ t → cond t code room ≤ room
    go true e = omega (arith, ltb-true code room e)
    go false e = omega arith
