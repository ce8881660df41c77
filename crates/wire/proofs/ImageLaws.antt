-- Laws of images: an image is a start of frame, the stuffed bits of what is read, and a closing of plain bits; how long it is; and
-- that bits tell their fields.
use Rattle.std.specs.Prelude.{ℕ, ◌+◌, ◌*◌, ◌≤◌, ◌≡◌, refl, Bool, true, false, List, [], ◌∷◌, ◌++◌, length, replicate}
use Rattle.std.proofs.Common.{sym, ap, ap₂, subst, ◌∙◌, append_assoc, arith, lit<, length-append, length-take}
use Rattle.wire.specs.declared.idents.Ident.{Ident}
use Rattle.wire.specs.declared.idents.Ident.TheVariants.{Base, Extended}
use Rattle.wire.specs.declared.frames.Frame.{Frame}
use Rattle.wire.specs.declared.frames.Received.{Received}
use Rattle.wire.specs.declared.runs.Run.{Run}
use Rattle.wire.specs.Numbers.{crc_width, end_of_frame_bits}
use Rattle.wire.specs.Bits.{bits}
use Rattle.wire.proofs.BitsLaws.{length_bits, AllBits, all_bits-append}
use Rattle.wire.specs.Crc.{crc}
use Rattle.wire.specs.Stuffing.{none, ran, dynamic, plain, Coded, wire, code_from, all, stuff_from}
use Rattle.wire.proofs.StuffingLaws.{wire-append, code-append, code_plain, run_after, stuff_bits, stuff-length}
use Rattle.wire.specs.Fields.{Span, field, raw, coded, header, carried, carried_bytes, data_fields}
use Rattle.wire.proofs.FieldsLaws.{raw-append, coded-append, Alike, alike-append, coded_alike, header_stuffed, data_stuffed, raw-bits, header_bits, length_header, length_data, carried-le}
use Rattle.wire.specs.Image.{start_of_frame, body, slot, behind_delimiter, fields, image, longest}
use Rattle.wire.specs.Layout.{done, end, Walker, enter, takes, Got, frames}
use Rattle.wire.proofs.LayoutLaws.{Reads, reads_way}
use Rattle.wire.proofs.FramesLaws.{got_fields, GotIn, frames-told, frames_way}

-- AN IMAGE'S PARTS

-- what is read of an image
abbrev pub got_of : Received → Got
got_of r =
    record {
      ident = r.frame.ident;
      remote = r.frame.remote;
      code = r.frame.code;
      bytes = carried_bytes r.frame;
      noted = r.noted;
      crc = crc (raw (body r.frame r.noted));
    }

-- the bits behind the CRC delimiter
abbrev pub closing : Bool → List ℕ
closing acknowledged = slot acknowledged ∷ 1 ∷ replicate end_of_frame_bits 1

closing-raw : (t : Bool) → raw (behind_delimiter t) ≡ closing t
unfolding bits
closing-raw true = refl
closing-raw false = refl

-- behind the start of frame, to the CRC delimiter
abbrev pub stuffed_bits : Received → List ℕ
stuffed_bits r = raw (got_fields (got_of r)) ++ (1 ∷ [])

-- the fields from start of frame to the CRC delimiter
abbrev front : Received → List Span
front r = (start_of_frame ∷ got_fields (got_of r)) ++ (field 1 1 ∷ [])

fields_split : (r : Received) → fields r ≡ front r ++ behind_delimiter r.acknowledged
fields_split r =
    let h : List Span = header r.frame.ident r.frame.remote r.frame.code r.noted in
    let d : List Span = data_fields (carried_bytes r.frame) in
    regroup start_of_frame h d (field crc_width (got_of r).crc) (field 1 1) (behind_delimiter r.acknowledged)
  where
    regroup : (s : Span) (h d : List Span) (c e : Span) (l : List Span)
        → (s ∷ (h ++ d)) ++ (c ∷ e ∷ l) ≡ ((s ∷ (h ++ (d ++ (c ∷ [])))) ++ (e ∷ [])) ++ l
    regroup s h d c e l = simp append_assoc

front-raw : (r : Received) → raw (front r) ≡ 0 ∷ stuffed_bits r
unfolding bits
front-raw r = ap (λ (l : List ℕ). 0 ∷ l) (raw-append (got_fields (got_of r)) (field 1 1 ∷ []))

front_stuffed : (r : Received) → Alike dynamic (front r)
front_stuffed r =
    let h : List Span = header r.frame.ident r.frame.remote r.frame.code r.noted in
    let d : List Span = data_fields (carried_bytes r.frame) in (
      refl,
      alike-append dynamic (got_fields (got_of r)) (field 1 1 ∷ [])
          (alike-append dynamic h (d ++ (field crc_width (got_of r).crc ∷ [])) (header_stuffed r.frame.ident r.frame.remote r.frame.code r.noted)
          (alike-append dynamic d (field crc_width (got_of r).crc ∷ []) (data_stuffed (carried_bytes r.frame)) (refl, tt)))
          (refl, tt),
    )

-- the run behind the start of frame
abbrev pub begun : Run
begun = ran none 0

pub image_parts : (r : Received) → image r ≡ 0 ∷ (stuff_from begun (stuffed_bits r) ++ closing r.acknowledged)
image_parts r =
    let t : List Span = behind_delimiter r.acknowledged in
    let a : List Coded = all dynamic (0 ∷ stuffed_bits r) in
    let b : List Coded = all plain (closing r.acknowledged) in
    let ca : coded (front r) ≡ a = coded_alike dynamic (front r) (front_stuffed r) ∙ ap (all dynamic) (front-raw r) in
    let cb : coded t ≡ b = coded_alike plain t (refl, (refl, (refl, tt))) ∙ ap (all plain) (closing-raw r.acknowledged) in
    ap (λ (l : List Span). wire (code_from none (coded l))) (fields_split r)
    ∙ ap (λ (l : List Coded). wire (code_from none l)) (coded-append (front r) t ∙ ap₂ (λ (x y : List Coded). x ++ y) ca cb)
    ∙ ap wire (code-append none a b)
    ∙ wire-append (code_from none a) (code_from (run_after none a) b)
    ∙ ap (λ (l : List ℕ). wire (code_from none a) ++ l) (code_plain (run_after none a) (closing r.acknowledged))

-- EVERY SAMPLE IS A BIT

closing-bits : (t : Bool) → AllBits (closing t)
closing-bits t = subst AllBits (closing-raw t) (raw-bits (behind_delimiter t))

pub image-bits : (r : Received) → AllBits (image r)
image-bits r =
    let b : AllBits (stuffed_bits r) = all_bits-append (raw (got_fields (got_of r))) (1 ∷ []) (raw-bits (got_fields (got_of r))) (lit< tt, tt) in
    subst AllBits (sym (image_parts r)) (lit< tt, all_bits-append (stuff_from begun (stuffed_bits r)) (closing r.acknowledged) (stuff_bits begun (stuffed_bits r) b) (closing-bits r.acknowledged))

-- LENGTH

stuffed_most : (r : Received) → length (stuffed_bits r) ≤ header_bits r.frame.ident + 80
stuffed_most r =
    let f : Frame = r.frame in
    let h : List Span = header f.ident f.remote f.code r.noted in
    let d : List Span = data_fields (carried_bytes f) in
    let c : Span = field crc_width (got_of r).crc in
    let n : ℕ = carried f.remote f.code in
    let whole : raw (got_fields (got_of r)) ≡ raw h ++ (raw d ++ (bits crc_width (got_of r).crc ++ [])) =
    raw-append h (d ++ (c ∷ [])) ∙ ap (λ (l : List ℕ). raw h ++ l) (raw-append d (c ∷ [])) in
    omega (
      arith,
      ap length whole,
      length-append (raw (got_fields (got_of r))) (1 ∷ []),
      length-append (raw h) (raw d ++ (bits crc_width (got_of r).crc ++ [])),
      length-append (raw d) (bits crc_width (got_of r).crc ++ []),
      length-append (bits crc_width (got_of r).crc) [],
      length_bits crc_width (got_of r).crc,
      length_header f.ident f.remote f.code r.noted,
      length_data (carried_bytes f),
      length-take n f.bytes,
      carried-le f.remote f.code,
    )

within : (i : Ident) (n m : ℕ) → n ≤ header_bits i + 80 → 4 * m + 1 ≤ 5 * n + 1 → m + 10 ≤ longest i
within (Base i) n m h k = omega arith
within (Extended i) n m h k = omega arith

pub image_length : (r : Received) → length (image r) ≤ longest r.frame.ident
image_length r =
    let s : List ℕ = stuff_from begun (stuffed_bits r) in
    let k : 4 * length s + 1 ≤ 5 * length (stuffed_bits r) + 1 = stuff-length begun (stuffed_bits r) (lit< tt) in
    omega (
      arith,
      ap length (image_parts r),
      length-append s (closing r.acknowledged),
      within r.frame.ident (length (stuffed_bits r)) (length s) (stuffed_most r) k,
    )

-- EQUAL BITS HAVE EQUAL FIELDS

same_end : (g h : Got) → enter (done g) ≡ enter (done h) → g ≡ h
same_end g h e = let d : done g ≡ done h = ap (λ (r : Walker Got). r.rest) e in cc

-- what is read from the bits of its fields
pub read_back : (g : Got) → GotIn g → Reads (enter frames) (raw (got_fields g)) (enter (done g))
read_back g p =
    let y = frames_way g p in
    subst (λ (x : Got). Reads (enter frames) (raw (got_fields x)) (enter (done x))) y.1
    (subst (λ (l : List Span). Reads (enter frames) (raw l) (enter (done (end frames y.0)))) (frames-told y.0).1 (reads_way frames y.0))

pub raw_same : (g h : Got) → GotIn g → GotIn h → raw (got_fields g) ≡ raw (got_fields h) → g ≡ h
raw_same g h p q e = same_end g h (sym (read_back g p).ends ∙ ap (takes (enter frames)) e ∙ (read_back h q).ends)
