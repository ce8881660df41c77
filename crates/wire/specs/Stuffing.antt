-- Stuffing (01 "The wire image"; 001 6.6.13.2), said by what is due before the next bit: after five equal samples, stuff bits
-- counted, the opposite one. The CRC delimiter is the last bit before which one can be due; so the stuff bit behind the last CRC bit
-- needs no clause of its own.
use Rattle.std.specs.Prelude.{ℕ, ◌+◌, ◌-◌, cond, List, [], ◌∷◌, ◌++◌, Option, Some, None, eqb, ltb}
use Rattle.wire.specs.declared.runs.Run.{Run}
use Rattle.wire.specs.Numbers.{five}

-- RUNS

-- before the first sample: no sample equals 2
abbrev pub none : Run
none = record { last = 2; len = 0 }

-- one sample more, counted up to five
abbrev pub ran : Run → ℕ → Run
ran u b = record { last = b; len = cond (eqb b u.last) (cond (ltb u.len five) (u.len + 1) five) 1 }

abbrev pub ran_from : Run → List ℕ → Run
ran_from u [] = u
ran_from u (b ∷ bs) = ran_from (ran u b) bs

-- CODING

-- how a bit is coded: stuff bits may be due before it, or none
pub data Coding : Type 0 where
  dynamic : Coding
  plain : Coding

pub record Coded : Type 0 where
  pub how : Coding
  pub bit : ℕ

-- why a sample is there: as a bit of the frame, or as a stuff bit
pub data Why : Type 0 where
  frame : Why
  stuff : Why

pub record Sample : Type 0 where
  pub why : Why
  pub bit : ℕ

-- the samples as they are on the wire
abbrev pub wire : List Sample → List ℕ
wire [] = []
wire (s ∷ ss) = s.bit ∷ wire ss

abbrev pub opposite : ℕ → ℕ
opposite b = 1 - b

-- what is due before the next bit
abbrev pub due : Coding → Run → List Sample
due dynamic u = cond (eqb u.len five) (record { why = stuff; bit = opposite u.last } ∷ []) []
due plain u = []

-- what one bit is sent as
abbrev pub sends : Run → Coded → List Sample
sends u x = due x.how u ++ (record { why = frame; bit = x.bit } ∷ [])

-- what bits are sent as, from any run
abbrev pub code_from : Run → List Coded → List Sample
code_from u [] = []
code_from u (x ∷ xs) = sends u x ++ code_from (ran_from u (wire (sends u x))) xs

abbrev pub code : List Coded → List Sample
code xs = code_from none xs

-- bits that are all coded alike
abbrev pub all : Coding → List ℕ → List Coded
all c [] = []
all c (b ∷ bs) = record { how = c; bit = b } ∷ all c bs

-- stuffing alone: the samples of bits in the stuffed part
abbrev pub stuff_from : Run → List ℕ → List ℕ
stuff_from u bs = wire (code_from u (all dynamic bs))

-- the stuff bit that is due, if one is, as the code says it
abbrev pub due_as : Run → Option ℕ
due_as u = cond (eqb u.len five) (Some (opposite u.last)) None
