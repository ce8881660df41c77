-- DOCUMENT 01'S TABLE ("What the listener does at each sample"; W-201), over the samples alone: where a listener is, what each sample
-- answers, and where it then is. No registers: in the stuffed part a place holds the samples since start of frame, behind it the fields
-- that their unstuffed bits are.
use Rattle.std.specs.Prelude.{ℕ, ◌+◌, ◌-◌, Bool, cond, ◌&&◌, List, [], ◌∷◌, ◌++◌, eqb, leb, ltb, length, replicate, drop}
use Rattle.wire.specs.declared.frames.Received.{Received}
use Rattle.wire.specs.Numbers.{room, five, end_of_frame_bits, idle, hand_out_bit, intermission_bits}
use Rattle.wire.specs.Crc.{crc}
use Rattle.wire.specs.Stuffing.{none, ran_from}
use Rattle.wire.specs.Unstuffing.{unstuff_from}
use Rattle.wire.specs.Fields.{raw, header, data_fields}
use Rattle.wire.specs.Image.{start_of_frame}
use Rattle.wire.specs.Layout.{Layout, done, part, newer, is_newer, enter, takes, Got, frames}
use Rattle.claims.specs.Answers.{Said, nothing, handed, stuff_error, form_error, crc_error, overload, newer_format}

pub data Where : Type 0 where
  waiting : Where
  ready : Where
  -- start of frame to the end of stuffing
  stuffed : (since : List ℕ) → Where
  crc_delimiter : Got → Where
  ack_slot : Got → Where
  -- with the sample in the slot
  ack_delimiter : Got → ℕ → Where
  -- end of frame, bits 1 to 7
  end_of_frame : ℕ → Got → ℕ → Where
  -- intermission, bits 1 to 3
  intermission : ℕ → Where

pub record Row : Type 0 where
  pub says : Said
  pub goes : Where

abbrev silent : Where → Row
silent p = record { says = nothing; goes = p }

-- a trouble is any answer that ends in waiting
abbrev trouble : Said → Row
trouble a = record { says = a; goes = waiting }

-- how many recessive samples there are at the end
abbrev pub recessives_from : ℕ → List ℕ → ℕ
recessives_from n [] = n
recessives_from n (b ∷ bs) = recessives_from (cond (eqb b 0) 0 (n + 1)) bs

abbrev pub recessives : List ℕ → ℕ
recessives h = recessives_from 0 h

-- the next sample would be the sixth equal one in a row
abbrev pub sixth : List ℕ → ℕ → Bool
sixth s b = eqb (ran_from none s).len five && eqb b (ran_from none s).last

-- what the unstuffed bits behind the start of frame are: the fields of a whole frame to its CRC, a beginning of them, or those of
-- a newer format
abbrev pub reading : List ℕ → Layout Got
reading s = (takes (enter frames) (drop 1 (unstuff_from none s))).rest

-- FDF came recessive
abbrev pub newer_begun : List ℕ → Bool
newer_begun s = is_newer (reading s)

-- where the stuffed part leads: to its end where the frame is whole and no stuff bit is due, to waiting where a newer format has begun
abbrev pub ended : Layout Got → List ℕ → Where
ended (done g) s = cond (eqb (ran_from none s).len five) (stuffed s) (crc_delimiter g)
ended (part w k) s = stuffed s
ended newer s = waiting

abbrev pub onward : List ℕ → Where
onward s = ended (reading s) s

-- the CRC over every bit from start of frame to the last data bit, as received
abbrev pub checks : Got → Bool
checks g = eqb (crc (raw (start_of_frame ∷ (header g.ident g.remote g.code g.noted ++ data_fields g.bytes)))) g.crc

-- the frame, with 8 data bytes (unused ones 0), its noted bits, and whether the slot was dominant
abbrev pub received_from : Got → ℕ → Received
received_from g slot =
    record {
      frame =
          record {
            ident = g.ident;
            remote = g.remote;
            code = g.code;
            count = length g.bytes;
            bytes = g.bytes ++ replicate (room - length g.bytes) 0;
          };
      acknowledged = eqb slot 0;
      noted = g.noted;
    }

-- THE TABLE: h are the samples before, b is the sample
abbrev pub row : List ℕ → Where → ℕ → Row
-- waiting: ready as soon as the last eleven samples are all recessive
row h waiting b = silent (cond (leb idle (recessives (h ++ (b ∷ [])))) ready waiting)
-- ready: recessive bits are ignored, a dominant bit is a start of frame
row h ready b = silent (cond (eqb b 0) (stuffed (0 ∷ [])) ready)
-- start of frame to the end of stuffing | sixth equal bit in a row | stuff error, waiting
-- r0 of a base frame, r1 of an extended one | 1 | newer format begun, waiting
row h (stuffed s) b =
    cond (sixth s b) (trouble stuff_error)
    (cond (newer_begun (s ++ (b ∷ []))) (trouble newer_format) (silent (onward (s ++ (b ∷ [])))))
-- CRC delimiter | 0 | form error, waiting
row h (crc_delimiter g) b = cond (eqb b 0) (trouble form_error) (silent (ack_slot g))
-- the slot is taken with either value
row h (ack_slot g) b = silent (ack_delimiter g b)
-- acknowledge delimiter | 0 | form error, waiting; 1, CRC wrong | CRC error, waiting
row h (ack_delimiter g a) b = cond (eqb b 0) (trouble form_error) (cond (checks g) (silent (end_of_frame 1 g a)) (trouble crc_error))
-- end of frame, bits 1 to 6 | 0 | form error, waiting; bit 6 | 1 | the frame is handed out; bit 7 | 0 | overload, waiting
row h (end_of_frame k g a) b =
    cond (eqb b 0)
    (cond (ltb k end_of_frame_bits) (trouble form_error) (trouble overload))
    (cond (ltb k hand_out_bit)
    (silent (end_of_frame (k + 1) g a))
    (cond (eqb k hand_out_bit)
    (record { says = handed (received_from g a); goes = end_of_frame end_of_frame_bits g a })
    (silent (intermission 1))))
-- intermission bits 1 and 2 | 0 | overload, waiting; bit 3 | 0 | nothing: it is a start of frame; 1 | nothing: ready
row h (intermission k) b =
    cond (eqb b 0)
    (cond (ltb k intermission_bits) (trouble overload) (silent (stuffed (0 ∷ []))))
    (cond (ltb k intermission_bits) (silent (intermission (k + 1))) (silent ready))

-- over samples that come behind those in h; a new listener is waiting, with none before
abbrev pub where_from : List ℕ → Where → List ℕ → Where
where_from h p [] = p
where_from h p (b ∷ bs) = where_from (h ++ (b ∷ [])) (row h p b).goes bs

abbrev pub says_from : List ℕ → Where → List ℕ → List Said
says_from h p [] = []
says_from h p (b ∷ bs) = (row h p b).says ∷ says_from (h ++ (b ∷ [])) (row h p b).goes bs
