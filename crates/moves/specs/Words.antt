-- What a fault is called in an answer (01 "What the listener does at each sample"; W-201 for a newer format).
use Rattle.std.specs.Prelude.{ℕ, List, Option, Some, codes}
use Rattle.moves.specs.declared.places.Fault.{Fault}
use Rattle.moves.specs.declared.places.Fault.TheVariants.{StuffError, FormError, CrcError, Overload, NewerFormat}

-- a fault is printed in these words
abbrev pub words : Fault → Option (List ℕ)
words StuffError = Some (codes "stuff error")
words FormError = Some (codes "form error")
words CrcError = Some (codes "CRC error")
words Overload = Some (codes "overload")
words NewerFormat = Some (codes "newer format begun")
