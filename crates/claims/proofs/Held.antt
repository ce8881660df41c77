-- What a reader at the end of its frame holds: the fields that the bits are, their CRC in the register, and the frame to hand out.
use Rattle.std.proofs.Common.{ℕ, ◌^◌, ◌<◌, ◌≡◌, refl, sym, ap, ap₂, subst, ◌∙◌, true, List, [], ◌∷◌, ◌++◌, append_assoc, append-nil, arith, mod-eq_of_lt, length, take, length-append, length-take}
use Rattle.std.proofs.Math.Seq.{take-append_seam}
use Rattle.wire.specs.Numbers.{room, code_width, crc_width, crc_generator, crc_start}
use Rattle.wire.specs.Bits.{bits, xors}
use Rattle.wire.proofs.BitsLaws.{length_bits}
use Rattle.wire.specs.Crc.{crc_step, crc_from, crc}
use Rattle.wire.specs.Fields.{Span, field, raw, header, data_fields}
use Rattle.wire.specs.Image.{start_of_frame}
use Rattle.wire.proofs.FieldsLaws.{raw-append, carried-le}
use Rattle.wire.specs.Layout.{done, wide, Got}
use Rattle.wire.proofs.FramesLaws.{got_fields, GotIn}
use Rattle.reader.specs.declared.fields.Field.TheVariants.{Done}
use Rattle.reader.specs.Reader.{is_done, remote_of, bytes_to_come}
use Rattle.line.specs.declared.inframe.InFrame.{InFrame}
use Rattle.listener.specs.Listener.{received_of}
use Rattle.claims.specs.Table.{received_from}
use Rattle.claims.proofs.Follows.{held, Follows}
use Rattle.claims.proofs.Stuffing.{walker, whole-bits}
use Rattle.claims.proofs.Parts.{is_done_lem}
use Rattle.claims.proofs.Reading.{Taken}

-- start of frame to the last data bit
abbrev pub body_of : Got → List Span
body_of g = start_of_frame ∷ (header g.ident g.remote g.code g.noted ++ data_fields g.bytes)

pub record Complete (g : Got) (f : InFrame) (bytes : List ℕ) : Type 0 where
  pub size : length bytes ≡ room
  pub done : is_done f.reader.field ≡ true
  pub holds : held f.reader.registers bytes ≡ g
  pub legal : GotIn g
  pub crc : f.crc ≡ crc (raw (body_of g))

-- two lists that end alike long begin alike
same_front : (xs ys zs ws : List ℕ) → xs ++ ys ≡ zs ++ ws → length ys ≡ length ws → xs ≡ zs
same_front xs ys zs ws e n =
    let m : length xs ≡ length zs = omega (arith, ap length e, length-append xs ys, length-append zs ws) in
    sym (take-append_seam xs ys) ∙ ap₂ (λ (k : ℕ) (l : List ℕ). take k l) m e ∙ take-append_seam zs ws

-- the dominant start of frame leaves the register at its start
crc_start_lem : (xs : List ℕ) → crc_from crc_width crc_generator crc_start xs ≡ crc (bits 1 0 ++ xs)
unfolding crc_step xors bits
crc_start_lem xs = refl

got-raw : (g : Got)
    → raw (got_fields g) ≡ raw (header g.ident g.remote g.code g.noted ++ data_fields g.bytes) ++ bits crc_width g.crc
got-raw g =
    let h : List Span = header g.ident g.remote g.code g.noted in
    let d : List Span = data_fields g.bytes in
    ap raw (sym (append_assoc h d (field crc_width g.crc ∷ [])))
    ∙ raw-append (h ++ d) (field crc_width g.crc ∷ [])
    ∙ ap (λ (l : List ℕ). raw (h ++ d) ++ l) (append-nil (bits crc_width g.crc))

-- THE END
module _ (f : InFrame) (bytes xs : List ℕ) (g : Got) (t : Taken f bytes xs) (e : (walker xs).rest ≡ done g) where
  ended : (is_done f.reader.field ≡ true) × (held f.reader.registers bytes ≡ g)
  ended = subst (Follows f.reader.field f.reader.registers bytes) e t.sim.follows

  pub completes : Complete g f bytes
  completes =
      let whole = whole-bits xs g t.stood e in
      let s = t.summed in
      let body : List ℕ = raw (header g.ident g.remote g.code g.noted ++ data_fields g.bytes) in
      let d : f.reader.field ≡ Done = is_done_lem f.reader.field ended.0 in
      let z : f.reader.left ≡ 0 = omega (arith, t.sim.left, t.stood.most, ap wide e) in
      let n : length s.after ≡ length (bits crc_width g.crc) = s.size ∙ rw (d, z) (sym (length_bits crc_width g.crc)) in
      let front : s.before ≡ body = same_front s.before s.after body (bits crc_width g.crc) (sym s.all ∙ whole.0 ∙ got-raw g) n in
      record {
        size = t.size;
        done = ended.0;
        holds = ended.1;
        legal = whole.1;
        crc = s.register ∙ ap (crc_from crc_width crc_generator crc_start) front ∙ crc_start_lem body;
      }

-- THE FRAME TO HAND OUT

held_is : (f : InFrame) (bytes : List ℕ) → length bytes ≡ room → f.reader.registers.code < 2 ^ code_width
    → received_of f bytes ≡ received_from (held f.reader.registers bytes) f.slot
held_is f bytes size h =
    let n : ℕ = bytes_to_come f.reader.registers in
    let m : length (take n bytes) ≡ n = length-take n bytes ∙ omega (arith, carried-le (remote_of f.reader.registers) f.reader.registers.code) in
    rw (m, mod-eq_of_lt h)

pub received_is : (g : Got) (f : InFrame) (bytes : List ℕ) → Complete g f bytes → received_of f bytes ≡ received_from g f.slot
received_is g f bytes c =
    let h : f.reader.registers.code < 2 ^ code_width = omega (arith, c.legal.code, ap (λ (x : Got). x.code) c.holds) in
    held_is f bytes c.size h ∙ ap (λ (x : Got). received_from x f.slot) c.holds
