-- What the writer's inner functions do, as actions of lists: samples put down, bits drawn with what is due between them, and a sheet
-- with its CRC. A reader of the public contract needs none of these.
use Rattle.std.specs.Prelude.{ℕ, ◌+◌, false, cond, List, [], ◌∷◌, Option, None, ltb, length, set, replicate}
use Rattle.wire.specs.declared.frames.Frame.{Frame}
use Rattle.wire.specs.declared.runs.Run.{Run}
use Rattle.wire.specs.Numbers.{crc_width, crc_generator, crc_start, longest_extended}
use Rattle.wire.specs.Crc.{crc_from}
use Rattle.wire.specs.Stuffing.{none, ran, Coded, dynamic, plain, due_as, wire, code_from, all}
use Rattle.wire.specs.Stuffing as stuffing
use Rattle.wire.specs.Fields.{Span, field, coded, header}
use Rattle.wire.specs.Image.{start_of_frame, ending}
use Rattle.writer.specs.declared.page.Pen.{Pen}
use Rattle.writer.specs.declared.page.Page.{Page}
use Rattle.writer.specs.declared.coding.Coding.{Coding}
use Rattle.writer.specs.declared.coding.Coding.TheVariants.{Dynamic, Plain}
use Rattle.writer.specs.declared.sheet.Sheet.{Sheet}

-- SAMPLES

abbrev pub page : List ℕ → Pen → Page
page o p = record { out = o; pen = p }

abbrev pub new_pen : Pen
new_pen = record { at = 0; run = none }

-- blank, with room for the longest image
unfoldable pub new_page : Page
new_page = page (replicate longest_extended 0) new_pen

-- one sample put down; past the end it is lost
abbrev pub mark : Page → ℕ → Page
mark s b =
    page
    (set s.out s.pen.at b)
    (record { at = cond (ltb s.pen.at (length s.out)) (s.pen.at + 1) s.pen.at; run = ran s.pen.run b })

abbrev pub marks : Page → List ℕ → Page
marks s [] = s
marks s (b ∷ bs) = marks (mark s b) bs

-- BITS

abbrev pub coding_of : Coding → stuffing.Coding
coding_of Dynamic = dynamic
coding_of Plain = plain

abbrev pub coded_bit : Coding → ℕ → Coded
coded_bit how b = record { how = coding_of how; bit = b }

-- what is due before a bit
abbrev pub due_before : Coding → Run → Option ℕ
due_before Dynamic u = due_as u
due_before Plain u = None

-- bits put down with what is due before them
unfoldable pub drawn : Page → List Coded → Page
drawn s xs = marks s (wire (code_from s.pen.run xs))

-- SHEETS

abbrev pub new_sheet : Sheet
new_sheet = record { page = new_page; crc = crc_start }

-- bits drawn, and taken into the CRC
unfoldable pub laid : Sheet → List ℕ → Sheet
unfolding drawn
laid s bs = record { page = drawn s.page (all dynamic bs); crc = crc_from crc_width crc_generator s.crc bs }

-- the CRC, and what stands behind it
unfoldable pub closed : Sheet → Page
unfolding drawn
closed s = drawn s.page (coded (field crc_width s.crc ∷ ending false))

-- start of frame to the length code
abbrev pub head_fields : Frame → List Span
head_fields f = start_of_frame ∷ header f.ident f.remote f.code 0
