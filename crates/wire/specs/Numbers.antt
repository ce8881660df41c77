-- The numbers of document 01, each named once. The error counts, the fault ledger and the claims name their own. 0 and 1 as bits, a
-- refusal's number and the figures of a sample stay as document 01 writes them.
use Rattle.std.specs.Prelude.{ℕ}

-- HOW BITS AND FRAMES ARE HELD

-- the bytes of a data frame, at most
abbrev pub room : ℕ
room = 8

-- what each noted bit adds to their sum
abbrev pub srr_noted : ℕ
srr_noted = 4

abbrev pub r0_noted : ℕ
r0_noted = 1

-- THE WIRE IMAGE

-- how many bits a base identifier has, and the upper part of an extended one; its lower part; the whole of it
abbrev pub base_width : ℕ
base_width = 11

abbrev pub lower_width : ℕ
lower_width = 18

abbrev pub extended_width : ℕ
extended_width = 29

-- the length code's bits, and a byte's
abbrev pub code_width : ℕ
code_width = 4

abbrev pub byte_width : ℕ
byte_width = 8

-- the CRC's register has so many bits, and starts so; the generator stands without its top term
abbrev pub crc_width : ℕ
crc_width = 15

abbrev pub crc_generator : ℕ
crc_generator = 0x4599

abbrev pub crc_start : ℕ
crc_start = 0

-- after so many equal bits one opposite bit is inserted
abbrev pub five : ℕ
five = 5

-- how many bits the end of frame has
abbrev pub end_of_frame_bits : ℕ
end_of_frame_bits = 7

-- no image is longer
abbrev pub longest_base : ℕ
longest_base = 132

abbrev pub longest_extended : ℕ
longest_extended = 157

-- WHAT THE LISTENER DOES AT EACH SAMPLE

-- so many recessive samples in a row make a waiting listener ready
abbrev pub idle : ℕ
idle = 11

-- the end-of-frame bit at which a frame is handed out
abbrev pub hand_out_bit : ℕ
hand_out_bit = 6

-- how many bits the intermission has
abbrev pub intermission_bits : ℕ
intermission_bits = 3

-- WHEN THE HANDSET SAYS NO

-- the highest identifiers
abbrev pub highest_base : ℕ
highest_base = 2047

abbrev pub highest_extended : ℕ
highest_extended = 536870911

-- the highest base identifier that old controllers take: the upper seven bits of those above are all recessive (W-207)
abbrev pub highest_old : ℕ
highest_old = 2031

-- the highest length code that is written (W-207)
abbrev pub highest_written : ℕ
highest_written = 15
