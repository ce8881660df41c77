-- The ranges of the reader's numbers (docs/RANGES.md).
use Rattle.std.specs.Prelude.{◌+◌, ◌^◌, Bool, true, ◌&&◌, ltb}
use Rattle.wire.specs.Numbers.{room, base_width, lower_width, code_width, crc_width}
use Rattle.reader.specs.declared.fields.Field.{Field}
use Rattle.reader.specs.declared.fields.Field.TheVariants.{Upper, Srr, Ide, Lower, Rtr, Fdf, R0, Code, Data, Crc, Done}
use Rattle.reader.specs.declared.registers.Registers.{Registers}
use Rattle.reader.specs.declared.readers.Reader.{Reader}

abbrev pub registers_fit : Registers → Bool
registers_fit g =
    ltb g.upper (2 ^ base_width)
    && ltb g.srr 2
    && ltb g.ide 2
    && ltb g.lower (2 ^ lower_width)
    && ltb g.rtr 2
    && ltb g.r0 2
    && ltb g.code (2 ^ code_width)
    && ltb g.crc (2 ^ crc_width)

abbrev pub field_fits : Field → Bool
field_fits Upper = true
field_fits Srr = true
field_fits Ide = true
field_fits Lower = true
field_fits Rtr = true
field_fits Fdf = true
field_fits R0 = true
field_fits Code = true
field_fits (Data i) = ltb i room
field_fits Crc = true
field_fits Done = true

-- no field has more bits than the lower part of an extended identifier
abbrev pub reader_fits : Reader → Bool
reader_fits r = field_fits r.field && ltb r.left (lower_width + 1) && ltb r.value (2 ^ lower_width) && registers_fit r.registers
