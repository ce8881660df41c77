-- The range of a place's count (docs/RANGES.md): the bits of end of frame and intermission are counted from 1.
use Rattle.std.specs.Prelude.{◌+◌, Bool, true, ◌&&◌, ltb}
use Rattle.wire.specs.Numbers.{end_of_frame_bits, intermission_bits}
use Rattle.moves.specs.declared.places.Place.{Place}
use Rattle.moves.specs.declared.places.Place.TheVariants.{Waiting, Ready, Stuffed, AckSlot, AckDelimiter, EndOfFrame, Intermission}

abbrev pub place_fits : Place → Bool
place_fits Waiting = true
place_fits Ready = true
place_fits Stuffed = true
place_fits AckSlot = true
place_fits AckDelimiter = true
place_fits (EndOfFrame k) = ltb 0 k && ltb k (end_of_frame_bits + 1)
place_fits (Intermission k) = ltb 0 k && ltb k (intermission_bits + 1)
