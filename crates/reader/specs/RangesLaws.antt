-- Laws of the reader's ranges: what the test says of each number, and that every bit keeps to them.
use Rattle.std.specs.Prelude.{ℕ, ◌+◌, ◌^◌, ◌<◌, ◌≤◌, ◌≡◌, refl, Bool, true, false, cond, ◌&&◌, eqb, ltb}
use Rattle.std.proofs.lemmas.Bool.{false≢true}
use Rattle.std.proofs.Common.{arith, lit<, ltb-true, lt-ltb}
use Rattle.wire.specs.Numbers.{room, base_width, lower_width, code_width, crc_width}
use Rattle.wire.proofs.FieldsLaws.{carried-le}
use Rattle.reader.specs.declared.fields.Field.{Field}
use Rattle.reader.specs.declared.fields.Field.TheVariants.{Upper, Srr, Ide, Lower, Rtr, Fdf, R0, Code, Data, Crc, Done}
use Rattle.reader.specs.declared.registers.Registers.{Registers}
use Rattle.reader.specs.declared.readers.Reader.{Reader}
use Rattle.reader.specs.Reader.{width_of, new_reader, remote_of, bytes_to_come, put_of, data_or_crc, next_of, begun, shifted, within, turned, took_of}
use Rattle.reader.specs.Ranges.{registers_fit, field_fits, reader_fits}

-- TESTS TOGETHER

pub and_true : {a b : Bool} → a ≡ true → b ≡ true → (a && b) ≡ true
and_true p q = rw (p, q)

pub true_and : (a b : Bool) → (a && b) ≡ true → (a ≡ true) × (b ≡ true)
true_and true b e = (refl, e)
true_and false b e = absurd (false≢true e)

-- REGISTERS

pub record RegistersIn (g : Registers) : Type 0 where
  pub upper : g.upper < 2 ^ base_width
  pub srr : g.srr < 2
  pub ide : g.ide < 2
  pub lower : g.lower < 2 ^ lower_width
  pub rtr : g.rtr < 2
  pub r0 : g.r0 < 2
  pub code : g.code < 2 ^ code_width
  pub crc : g.crc < 2 ^ crc_width

pub registers_in : (g : Registers) → registers_fit g ≡ true → RegistersIn g
registers_in g e =
    let e7 = true_and _ _ e in
    let e6 = true_and _ _ e7.0 in
    let e5 = true_and _ _ e6.0 in
    let e4 = true_and _ _ e5.0 in
    let e3 = true_and _ _ e4.0 in
    let e2 = true_and _ _ e3.0 in
    let e1 = true_and _ _ e2.0 in
    record {
      upper = ltb-true _ _ e1.0;
      srr = ltb-true _ _ e1.1;
      ide = ltb-true _ _ e2.1;
      lower = ltb-true _ _ e3.1;
      rtr = ltb-true _ _ e4.1;
      r0 = ltb-true _ _ e5.1;
      code = ltb-true _ _ e6.1;
      crc = ltb-true _ _ e7.1;
    }

pub in_registers : (g : Registers) → RegistersIn g → registers_fit g ≡ true
in_registers g i = search (and_true, lt-ltb)

pub put_in : (g : Registers) (f : Field) (v : ℕ) → RegistersIn g → RegistersIn (put_of g f v)
put_in g Upper v i = search (arith)
put_in g Srr v i = search (arith)
put_in g Ide v i = search (arith)
put_in g Lower v i = search (arith)
put_in g Rtr v i = search (arith)
put_in g Fdf v i = i
put_in g R0 v i = search (arith)
put_in g Code v i = search (arith)
put_in g (Data n) v i = i
put_in g Crc v i = search (arith)
put_in g Done v i = i

-- FIELDS

pub width-lt : (f : Field) → width_of f < lower_width + 1
width-lt Upper = lit< tt
width-lt Srr = lit< tt
width-lt Ide = lit< tt
width-lt Lower = lit< tt
width-lt Rtr = lit< tt
width-lt Fdf = lit< tt
width-lt R0 = lit< tt
width-lt Code = lit< tt
width-lt (Data i) = lit< tt
width-lt Crc = lit< tt
width-lt Done = lit< tt

data_fits : (i n : ℕ) → n ≤ room → field_fits (data_or_crc i n) ≡ true
data_fits i n h = go (ltb i n) refl
  where
    go : (t : Bool) → ltb i n ≡ t → field_fits (cond t (Data i) Crc) ≡ true
    go true e = lt-ltb i room (omega (arith, ltb-true i n e))
    go false e = refl

either_fits : (t : Bool) (x y : Field) → field_fits x ≡ true → field_fits y ≡ true → field_fits (cond t x y) ≡ true
either_fits true x y p q = p
either_fits false x y p q = q

pub next-fits : (g : Registers) (f : Field) → field_fits (next_of g f) ≡ true
next-fits g Upper = refl
next-fits g Srr = refl
next-fits g Ide = either_fits (eqb g.ide 0) Fdf Lower refl refl
next-fits g Lower = refl
next-fits g Rtr = refl
next-fits g Fdf = either_fits (eqb g.ide 0) Code R0 refl refl
next-fits g R0 = refl
next-fits g Code = data_fits 0 (bytes_to_come g) (carried-le (remote_of g) g.code)
next-fits g (Data i) =
    either_fits (ltb i room) (data_or_crc (i + 1) (bytes_to_come g)) Crc
    (data_fits (i + 1) (bytes_to_come g) (carried-le (remote_of g) g.code))
    refl
next-fits g Crc = refl
next-fits g Done = refl

-- THE READER

pub record ReaderIn (r : Reader) : Type 0 where
  pub field : field_fits r.field ≡ true
  pub left : r.left < lower_width + 1
  pub value : r.value < 2 ^ lower_width
  pub registers : RegistersIn r.registers

pub reader_in : (r : Reader) → reader_fits r ≡ true → ReaderIn r
reader_in r e =
    let e3 = true_and _ _ e in
    let e2 = true_and _ _ e3.0 in
    let e1 = true_and _ _ e2.0 in
    record {
      field = e1.0;
      left = ltb-true _ _ e1.1;
      value = ltb-true _ _ e2.1;
      registers = registers_in r.registers e3.1;
    }

pub in_reader : (r : Reader) → ReaderIn r → reader_fits r ≡ true
in_reader r i = search (and_true, lt-ltb, in_registers)

pub new_in : ReaderIn new_reader
new_in = reader_in new_reader refl

begun_in : (g : Registers) (f : Field) → RegistersIn g → field_fits f ≡ true → ReaderIn (begun g f)
begun_in g f i e = record { field = e; left = width-lt f; value = lit< tt; registers = i }

pub took_in : (r : Reader) (b : ℕ) → ReaderIn r → ReaderIn (took_of r b).reader
took_in r b i = go (ltb 1 r.left)
  where
    v : ℕ
    v = shifted r.value b

    g : Registers
    g = put_of r.registers r.field v

    go : (t : Bool) → ReaderIn (cond t (within r v) (turned r v)).reader
    go true = record { field = i.field; left = omega (arith, i.left); value = omega arith; registers = i.registers }
    go false = begun_in g (next_of g r.field) (put_in r.registers r.field v i.registers) (next-fits g r.field)

-- every bit keeps the reader within its ranges
pub fits-took : (r : Reader) (b : ℕ) → reader_fits r ≡ true → reader_fits (took_of r b).reader ≡ true
fits-took r b e = in_reader (took_of r b).reader (took_in r b (reader_in r e))
