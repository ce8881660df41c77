-- A frame that can be received and the fields that are read of its image tell each other.
use Rattle.std.proofs.Common.{ℕ, zero, suc, ◌+◌, ◌-◌, ◌^◌, ◌<◌, ◌≤◌, ◌≡◌, refl, sym, ap, ap₂, ◌∙◌, Bool, true, false, List, [], ◌∷◌, ◌++◌, arith, eqb, lit<, length, get_or, take, drop, replicate, length-append, length-take, length-drop, take-append-drop, get_or-drop}
use Rattle.std.proofs.Math.ListN.{length-replicate}
use Rattle.wire.specs.declared.frames.Received.{Received}
use Rattle.wire.specs.Numbers.{room, crc_width, crc_generator, crc_start}
use Rattle.wire.proofs.CrcLaws.{crc-lt}
use Rattle.wire.specs.Fields.{raw, carried, carried_bytes}
use Rattle.wire.specs.Image.{body, slot}
use Rattle.wire.proofs.FieldsLaws.{carried-le}
use Rattle.wire.proofs.ImageLaws.{got_of}
use Rattle.wire.specs.Legal.{Stored, Legal}
use Rattle.wire.proofs.FramesLaws.{GotIn, AllBytes}
use Rattle.claims.specs.Table.{received_from}

-- BYTES

pub all_bytes : (l : List ℕ) → ((i : ℕ) → get_or l i 0 < 2 ^ 8) → AllBytes l
all_bytes [] h = tt
all_bytes (x ∷ l) h = (h 0, all_bytes l (λ (i : ℕ). h (suc i)))

pub take_bytes : (n : ℕ) (l : List ℕ) → AllBytes l → AllBytes (take n l)
take_bytes zero l h = tt
take_bytes (suc n) [] h = tt
take_bytes (suc n) (x ∷ l) h = (h.0, take_bytes n l h.1)

all_zero : (l : List ℕ) → ((i : ℕ) → get_or l i 0 ≡ 0) → l ≡ replicate (length l) 0
all_zero [] h = refl
all_zero (x ∷ l) h = ap₂ (λ (y : ℕ) (m : List ℕ). y ∷ m) (h 0) (all_zero l (λ (i : ℕ). h (suc i)))

-- the used bytes and zeros are all of them
trimmed_is : (n : ℕ) (bs : List ℕ) → Stored n bs → n ≤ room → take n bs ++ replicate (room - n) 0 ≡ bs
trimmed_is n bs s h =
    let z : drop n bs ≡ replicate (length (drop n bs)) 0 = all_zero (drop n bs) (λ (i : ℕ). get_or-drop n bs i 0 ∙ s.unused (n + i) (omega arith)) in
    let m : length (drop n bs) ≡ room - n = length-drop n bs ∙ ap (λ (k : ℕ). k - n) s.size in
    ap (λ (l : List ℕ). take n bs ++ l) (sym (z ∙ ap (λ (k : ℕ). replicate k 0) m)) ∙ take-append-drop n bs

-- bytes with zeros behind them

padded_byte : (bs : List ℕ) (n i : ℕ) → AllBytes bs → get_or (bs ++ replicate n 0) i 0 < 2 ^ 8
padded_byte [] zero i h = lit< tt
padded_byte [] (suc n) zero h = lit< tt
padded_byte [] (suc n) (suc i) h = padded_byte [] n i h
padded_byte (b ∷ bs) n zero h = h.0
padded_byte (b ∷ bs) n (suc i) h = padded_byte bs n i h.1

padded_unused : (bs : List ℕ) (n i : ℕ) → length bs ≤ i → get_or (bs ++ replicate n 0) i 0 ≡ 0
padded_unused [] zero i h = refl
padded_unused [] (suc n) zero h = refl
padded_unused [] (suc n) (suc i) h = padded_unused [] n i (omega arith)
padded_unused (b ∷ bs) n zero h = absurd (omega arith)
padded_unused (b ∷ bs) n (suc i) h = padded_unused bs n i (omega arith)

pub padded_stored : (bs : List ℕ) → AllBytes bs → length bs ≤ room → Stored (length bs) (bs ++ replicate (room - length bs) 0)
padded_stored bs h k =
    let n : ℕ = room - length bs in
    let z : List ℕ = replicate n 0 in
    record {
      size = length-append bs z ∙ omega (arith, length-replicate {A = ℕ} n 0);
      byte = λ (i : ℕ). padded_byte bs n i h;
      unused = λ (i : ℕ). padded_unused bs n i;
    }

module _ (r : Received) (l : Legal r) where
  few : r.frame.count ≤ room
  few = omega (arith, l.count, carried-le r.frame.remote r.frame.code)

  taken-length : length (carried_bytes r.frame) ≡ r.frame.count
  taken-length =
      length-take (carried r.frame.remote r.frame.code) r.frame.bytes
      ∙ omega (arith, l.count, l.bytes.size, few)

  -- what is read of its image is in its ranges
  pub legal_got : GotIn (got_of r)
  legal_got =
      record {
        ident = l.ident;
        noted = l.noted;
        code = l.code;
        size = taken-length ∙ l.count;
        bytes = take_bytes (carried r.frame.remote r.frame.code) r.frame.bytes (all_bytes r.frame.bytes l.bytes.byte);
        crc = crc-lt crc_width crc_generator crc_start (raw (body r.frame r.noted)) (lit< tt) (lit< tt);
      }

  -- and what is handed out for it is the frame
  pub received_back : received_from (got_of r) (slot r.acknowledged) ≡ r
  received_back =
      let f = r.frame in
      let b : carried_bytes f ++ replicate (room - length (carried_bytes f)) 0 ≡ f.bytes =
      ap₂ (λ (n k : ℕ). take n f.bytes ++ replicate (room - k) 0) (sym l.count) taken-length ∙ trimmed_is f.count f.bytes l.bytes few in
      rw (b, taken-length) (ap (λ (t : Bool). record { frame = f; acknowledged = t; noted = r.noted }) (heard r.acknowledged))
    where
      heard : (t : Bool) → eqb (slot t) 0 ≡ t
      heard true = refl
      heard false = refl
