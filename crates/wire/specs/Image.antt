-- The received image (01 "The wire image"): the samples of a frame with its noted bits and slot, from start of frame to end of frame.
use Rattle.std.specs.Prelude.{ℕ, ◌-◌, ◌^◌, Bool, cond, List, [], ◌∷◌, ◌++◌}
use Rattle.wire.specs.declared.idents.Ident.{Ident}
use Rattle.wire.specs.declared.idents.Ident.TheVariants.{Base, Extended}
use Rattle.wire.specs.declared.frames.Frame.{Frame}
use Rattle.wire.specs.declared.frames.Received.{Received}
use Rattle.wire.specs.Numbers.{crc_width, end_of_frame_bits, longest_base, longest_extended}
use Rattle.wire.specs.Crc.{crc}
use Rattle.wire.specs.Stuffing.{code, wire}
use Rattle.wire.specs.Fields.{Span, field, bare, raw, coded, header, carried_bytes, data_fields}

abbrev pub start_of_frame : Span
start_of_frame = field 1 0

-- start of frame to the last data bit: what the CRC is worked out over
abbrev pub body : Frame → ℕ → List Span
body f noted =
    start_of_frame ∷ (header f.ident f.remote f.code noted ++ data_fields (carried_bytes f))

-- the slot is dominant where the frame was acknowledged
abbrev pub slot : Bool → ℕ
slot acknowledged = cond acknowledged 0 1

-- acknowledge slot, acknowledge delimiter, seven end-of-frame bits
abbrev pub behind_delimiter : Bool → List Span
behind_delimiter acknowledged = bare 1 (slot acknowledged) ∷ bare 1 1 ∷ bare end_of_frame_bits (2 ^ end_of_frame_bits - 1) ∷ []

-- CRC delimiter, and what is behind it
abbrev pub ending : Bool → List Span
ending acknowledged = field 1 1 ∷ behind_delimiter acknowledged

abbrev pub fields : Received → List Span
fields r =
    body r.frame r.noted
    ++ (field crc_width (crc (raw (body r.frame r.noted))) ∷ ending r.acknowledged)

abbrev pub image : Received → List ℕ
image r = wire (code (coded (fields r)))

-- no image is longer
abbrev pub longest : Ident → ℕ
longest (Base i) = longest_base
longest (Extended i) = longest_extended
