-- Laws of the image that is sent: how its parts are coded.
use Rattle.std.specs.Prelude.{ℕ, ◌≡◌, refl, false, List, ◌∷◌, ◌++◌}
use Rattle.std.proofs.Common.{ap, ◌∙◌}
use Rattle.wire.specs.declared.frames.Frame.{Frame}
use Rattle.wire.specs.Numbers.{crc_width}
use Rattle.wire.specs.Bits.{bits}
use Rattle.wire.specs.Crc.{crc}
use Rattle.wire.specs.Stuffing.{Coded, dynamic, plain, all}
use Rattle.wire.specs.Fields.{Span, field, raw, coded, header, carried_bytes, data_fields}
use Rattle.wire.specs.Image.{body, ending, fields}
use Rattle.writer.specs.Writer.{sent_as}
use Rattle.wire.proofs.FieldsLaws.{Alike, alike-append, coded-append, coded_alike, header_stuffed, data_stuffed}

-- what the CRC is worked out over
abbrev pub covered : Frame → List ℕ
covered f = raw (body f 0)

body_stuffed : (f : Frame) → Alike dynamic (body f 0)
body_stuffed f =
    let h : List Span = header f.ident f.remote f.code 0 in
    (refl, alike-append dynamic h (data_fields (carried_bytes f)) (header_stuffed f.ident f.remote f.code 0) (data_stuffed (carried_bytes f)))

-- it is coded as its bits are; the CRC and what stands behind it follow
pub sent-coded : (f : Frame) → coded (fields (sent_as f)) ≡ all dynamic (covered f) ++ coded (field crc_width (crc (covered f)) ∷ ending false)
sent-coded f =
    coded-append (body f 0) (field crc_width (crc (covered f)) ∷ ending false)
    ∙ ap (λ (l : List Coded). l ++ coded (field crc_width (crc (covered f)) ∷ ending false)) (coded_alike dynamic (body f 0) (body_stuffed f))

-- what stands behind the CRC: its delimiter, and nine plain bits
pub ending-coded : (c : ℕ) → coded (field crc_width c ∷ ending false) ≡ all dynamic (bits crc_width c) ++ (all dynamic (bits 1 1) ++ all plain (bits 9 511))
unfolding bits
ending-coded c = refl
