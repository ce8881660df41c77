-- The field machine (01 "The wire image"): the order of the fields, what each leaves in the registers, and one bit more.
use Rattle.std.specs.Prelude.{ℕ, ◌+◌, ◌-◌, ◌*◌, ◌%◌, ◌^◌, Bool, true, false, cond, Option, Some, None, List, eqb, ltb}
use Rattle.wire.specs.declared.idents.Ident.{Ident}
use Rattle.wire.specs.declared.idents.Ident.TheVariants.{Base, Extended}
use Rattle.wire.specs.declared.frames.Frame.{Frame}
use Rattle.wire.specs.Numbers.{room, srr_noted, r0_noted, base_width, lower_width, code_width, byte_width, crc_width}
use Rattle.wire.specs.Fields.{joined, carried, trimmed}
use Rattle.reader.specs.declared.fields.Field.{Field}
use Rattle.reader.specs.declared.fields.Field.TheVariants.{Upper, Srr, Ide, Lower, Rtr, Fdf, R0, Code, Data, Crc, Done}
use Rattle.reader.specs.declared.registers.Registers.{Registers}
use Rattle.reader.specs.declared.readers.Reader.{Reader}
use Rattle.reader.specs.declared.readers.Kept.{Kept}
use Rattle.reader.specs.declared.readers.Took.{Took}

-- FIELDS

abbrev pub width_of : Field → ℕ
width_of Upper = base_width
width_of Srr = 1
width_of Ide = 1
width_of Lower = lower_width
width_of Rtr = 1
width_of Fdf = 1
width_of R0 = 1
width_of Code = code_width
width_of (Data i) = byte_width
width_of Crc = crc_width
width_of Done = 0

abbrev pub is_done : Field → Bool
is_done Upper = false
is_done Srr = false
is_done Ide = false
is_done Lower = false
is_done Rtr = false
is_done Fdf = false
is_done R0 = false
is_done Code = false
is_done (Data i) = false
is_done Crc = false
is_done Done = true

-- a recessive bit begins a newer format (W-201): r0 of a base frame, r1 of an extended one
abbrev pub is_fdf : Field → Bool
is_fdf Upper = false
is_fdf Srr = false
is_fdf Ide = false
is_fdf Lower = false
is_fdf Rtr = false
is_fdf Fdf = true
is_fdf R0 = false
is_fdf Code = false
is_fdf (Data i) = false
is_fdf Crc = false
is_fdf Done = false

-- the CRC is worked out over the bits of every field before it
abbrev pub is_summed : Field → Bool
is_summed Upper = true
is_summed Srr = true
is_summed Ide = true
is_summed Lower = true
is_summed Rtr = true
is_summed Fdf = true
is_summed R0 = true
is_summed Code = true
is_summed (Data i) = true
is_summed Crc = false
is_summed Done = false

-- REGISTERS

abbrev pub new_registers : Registers
new_registers = record { upper = 0; srr = 0; ide = 0; lower = 0; rtr = 0; r0 = 0; code = 0; crc = 0 }

-- the remote mark: the bit before IDE in a base frame
abbrev pub remote_of : Registers → Bool
remote_of g = cond (eqb g.ide 0) (eqb g.srr 1) (eqb g.rtr 1)

abbrev pub ident_of : Registers → Ident
ident_of g =
    cond (eqb g.ide 0)
    (Base (record { 0 = g.upper % 2 ^ base_width }))
    (Extended (record { 0 = joined (g.upper % 2 ^ base_width) (g.lower % 2 ^ lower_width) }))

-- THE NOTED BITS: 4 if SRR came dominant, 1 if r0 came recessive; a base frame has neither
abbrev pub note_of : ℕ → ℕ → ℕ → ℕ
note_of b noted weight = cond (eqb b noted) weight 0

abbrev pub noted_of : Registers → ℕ
noted_of g = cond (eqb g.ide 0) 0 (note_of g.srr 0 srr_noted + note_of g.r0 1 r0_noted)

-- how many data bytes follow the length code
abbrev pub bytes_to_come : Registers → ℕ
bytes_to_come g = carried (remote_of g) g.code

-- the frame that the registers and the data bytes hold
abbrev pub frame_of : Registers → List ℕ → Frame
frame_of g bytes =
    record {
      ident = ident_of g;
      remote = remote_of g;
      code = g.code % 2 ^ code_width;
      count = bytes_to_come g;
      bytes = trimmed (bytes_to_come g) bytes;
    }

-- a whole field is kept, so many bits of it as it has; FDF is dominant, and a data byte is not kept here
abbrev pub put_of : Registers → Field → ℕ → Registers
put_of g Upper v = record { upper = v % 2 ^ base_width; srr = g.srr; ide = g.ide; lower = g.lower; rtr = g.rtr; r0 = g.r0; code = g.code; crc = g.crc }
put_of g Srr v = record { upper = g.upper; srr = v % 2; ide = g.ide; lower = g.lower; rtr = g.rtr; r0 = g.r0; code = g.code; crc = g.crc }
put_of g Ide v = record { upper = g.upper; srr = g.srr; ide = v % 2; lower = g.lower; rtr = g.rtr; r0 = g.r0; code = g.code; crc = g.crc }
put_of g Lower v = record { upper = g.upper; srr = g.srr; ide = g.ide; lower = v % 2 ^ lower_width; rtr = g.rtr; r0 = g.r0; code = g.code; crc = g.crc }
put_of g Rtr v = record { upper = g.upper; srr = g.srr; ide = g.ide; lower = g.lower; rtr = v % 2; r0 = g.r0; code = g.code; crc = g.crc }
put_of g Fdf v = g
put_of g R0 v = record { upper = g.upper; srr = g.srr; ide = g.ide; lower = g.lower; rtr = g.rtr; r0 = v % 2; code = g.code; crc = g.crc }
put_of g Code v = record { upper = g.upper; srr = g.srr; ide = g.ide; lower = g.lower; rtr = g.rtr; r0 = g.r0; code = v % 2 ^ code_width; crc = g.crc }
put_of g (Data i) v = g
put_of g Crc v = record { upper = g.upper; srr = g.srr; ide = g.ide; lower = g.lower; rtr = g.rtr; r0 = g.r0; code = g.code; crc = v % 2 ^ crc_width }
put_of g Done v = g

abbrev pub kept_of : Field → ℕ → Option Kept
kept_of Upper v = None
kept_of Srr v = None
kept_of Ide v = None
kept_of Lower v = None
kept_of Rtr v = None
kept_of Fdf v = None
kept_of R0 v = None
kept_of Code v = None
kept_of (Data i) v = Some (record { at = i; byte = v % 2 ^ byte_width })
kept_of Crc v = None
kept_of Done v = None

-- THE ORDER OF THE FIELDS

abbrev pub after_ide : ℕ → Field
after_ide ide = cond (eqb ide 0) Fdf Lower

-- a base frame has no further reserved bit
abbrev pub after_fdf : ℕ → Field
after_fdf ide = cond (eqb ide 0) Code R0

-- the data byte at i, if there are so many, and else the CRC
abbrev pub data_or_crc : ℕ → ℕ → Field
data_or_crc i n = cond (ltb i n) (Data i) Crc

abbrev pub after_data : ℕ → ℕ → Field
after_data i n = cond (ltb i room) (data_or_crc (i + 1) n) Crc

abbrev pub next_of : Registers → Field → Field
next_of g Upper = Srr
next_of g Srr = Ide
next_of g Ide = after_ide g.ide
next_of g Lower = Rtr
next_of g Rtr = Fdf
next_of g Fdf = after_fdf g.ide
next_of g R0 = Code
next_of g Code = data_or_crc 0 (bytes_to_come g)
next_of g (Data i) = after_data i (bytes_to_come g)
next_of g Crc = Done
next_of g Done = Done

-- ONE BIT MORE

-- at the front of a field
abbrev pub begun : Registers → Field → Reader
begun g f = record { field = f; left = width_of f; value = 0; registers = g }

-- behind the start of frame
abbrev pub new_reader : Reader
new_reader = begun new_registers Upper

-- the bits of the field that came, with one more: no field has more than the lower part of an extended identifier
abbrev pub shifted : ℕ → ℕ → ℕ
shifted v b = v % 2 ^ (lower_width - 1) * 2 + b % 2

-- the field goes on
abbrev pub within : Reader → ℕ → Took
within r v = record { reader = record { field = r.field; left = r.left - 1; value = v; registers = r.registers }; kept = None }

-- the field is whole, and the next begins
abbrev pub turned : Reader → ℕ → Took
turned r v =
    record {
      reader = begun (put_of r.registers r.field v) (next_of (put_of r.registers r.field v) r.field);
      kept = kept_of r.field v;
    }

abbrev pub took_of : Reader → ℕ → Took
took_of r b = cond (ltb 1 r.left) (within r (shifted r.value b)) (turned r (shifted r.value b))
