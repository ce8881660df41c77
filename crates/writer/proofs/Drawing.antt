-- What is drawn is the image: the head as one field, what closes a sheet, and the whole.
use Rattle.std.proofs.Common.{ℕ, ◌+◌, ◌*◌, ◌/◌, ◌%◌, ◌^◌, ◌<◌, ◌≤◌, ◌≡◌, sym, ap, ◌∙◌, false, List, ◌∷◌, ◌++◌, arith, take, rules}
use Rattle.wire.specs.declared.idents.BaseId.{BaseId}
use Rattle.wire.specs.declared.idents.ExtId.{ExtId}
use Rattle.wire.specs.declared.idents.Ident.TheVariants.{Base, Extended}
use Rattle.wire.specs.declared.frames.Frame.{Frame}
use Rattle.wire.specs.Numbers.{base_width, extended_width, crc_width, highest_written}
use Rattle.wire.specs.Bits.{bits}
use Rattle.wire.specs.Crc.{crc}
use Rattle.wire.specs.Stuffing.{none, Coded, dynamic, plain, wire, code_from, all}
use Rattle.wire.specs.Fields.{Span, field, raw, coded, rtr, header, carried, carried_bytes, data_fields}
use Rattle.wire.specs.Image.{start_of_frame, ending}
use Rattle.writer.specs.declared.page.Page.{Page}
use Rattle.writer.specs.declared.sheet.Sheet.{Sheet}
use Rattle.refusals.specs.Refusals.{frame_refusal}
use Rattle.refusals.specs.RefusalsLaws.{ident_fits, code-fits}
use Rattle.writer.specs.Writer.{wire_bits}
use Rattle.writer.specs.Pages.{new_page, marks, drawn, new_sheet, laid, closed, head_fields}
use Rattle.writer.specs.PagesLaws.{drawn-append, laid-append}
use Rattle.wire.proofs.FieldsLaws.{raw-append}
use Rattle.writer.specs.PackedLaws.{value_from, raw_packed}
use Rattle.writer.specs.ImageLaws.{covered, sent-coded, ending-coded}

-- THE HEAD

module _ (f : Frame) (ok : frame_refusal f false ≡ 0) (r : ℕ) (e : r ≡ rtr f.remote) where
  pub head_base : (i : BaseId) → f.ident ≡ Base i → bits 19 (i.0 * 128 + (r * 64 + f.code)) ≡ raw (head_fields f)
  unfolding bits
  head_base i q =
      let id : i.0 < 2 ^ base_width = rw q at (ident_fits f ok) in
      let code : f.code ≤ highest_written = code-fits f ok in
      let all : List Span = start_of_frame ∷ header (Base i) f.remote f.code 0 in
      let value : i.0 * 128 + (r * 64 + f.code) ≡ value_from 0 all = omega arith in
      rw (q, value) (sym (raw_packed 0 0 all (search rules)))

  pub head_extended : (i : ExtId) → f.ident ≡ Extended i
      → bits 39 (((i.0 / 262144 * 4 + 3) * 262144 + i.0 % 262144) * 128 + (r * 64 + f.code)) ≡ raw (head_fields f)
  unfolding bits
  head_extended i q =
      let id : i.0 < 2 ^ extended_width = rw q at (ident_fits f ok) in
      let code : f.code ≤ highest_written = code-fits f ok in
      let all : List Span = start_of_frame ∷ header (Extended i) f.remote f.code 0 in
      let value : ((i.0 / 262144 * 4 + 3) * 262144 + i.0 % 262144) * 128 + (r * 64 + f.code) ≡ value_from 0 all = omega arith in
      rw (q, value) (sym (raw_packed 0 0 all (search rules)))

-- THE SHEET

pub close_drawn : (s : Sheet) (t u v : Page)
    → t ≡ drawn s.page (all dynamic (bits 15 s.crc)) → u ≡ drawn t (all dynamic (bits 1 1)) → v ≡ drawn u (all plain (bits 9 511))
    → v ≡ closed s
unfolding closed
close_drawn s t u v p q r =
    rw (r, q, p)
    (sym
    (ap (drawn s.page) (ending-coded s.crc)
    ∙ drawn-append s.page (all dynamic (bits 15 s.crc)) (all dynamic (bits 1 1) ++ all plain (bits 9 511))
    ∙ drawn-append (drawn s.page (all dynamic (bits 15 s.crc))) (all dynamic (bits 1 1)) (all plain (bits 9 511))))

-- THE IMAGE

covered-closed : (f : Frame) → closed (laid new_sheet (covered f)) ≡ marks new_page (wire_bits f)
unfolding closed laid wire_bits drawn new_page
covered-closed f =
    sym (drawn-append new_page (all dynamic (covered f)) (coded (field crc_width (crc (covered f)) ∷ ending false)))
    ∙ ap (λ (l : List Coded). marks new_page (wire (code_from none l))) (sym (sent-coded f))

pub image_whole : (f : Frame) (n w v : ℕ) (s t u : Sheet) (p : Page) → n ≡ carried f.remote f.code → bits w v ≡ raw (head_fields f)
    → s ≡ new_sheet → t ≡ laid s (bits w v) → u ≡ laid t (raw (data_fields (take n f.bytes))) → p ≡ closed u
    → p ≡ marks new_page (wire_bits f)
image_whole f n w v s t u p len h blank head rest close =
    rw (close, rest, head, blank, h, len)
    (ap closed (sym (laid-append new_sheet (raw (head_fields f)) (raw (data_fields (carried_bytes f)))))
    ∙ ap (λ (l : List ℕ). closed (laid new_sheet l)) (sym (raw-append (head_fields f) (data_fields (carried_bytes f))))
    ∙ covered-closed f)

pub ruleset head_packed = (head_base, head_extended)
