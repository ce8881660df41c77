-- The ranges of the core's numbers (docs/RANGES.md).
use Rattle.std.specs.Prelude.{◌+◌, ◌^◌, Bool, ◌&&◌, ltb}
use Rattle.wire.specs.declared.runs.Run.{Run}
use Rattle.wire.specs.Numbers.{five, crc_width, idle}
use Rattle.reader.specs.Ranges.{reader_fits}
use Rattle.moves.specs.Ranges.{place_fits}
use Rattle.line.specs.declared.inframe.InFrame.{InFrame}
use Rattle.line.specs.declared.cores.Core.{Core}

abbrev pub run_fits : Run → Bool
run_fits u = ltb u.last 2 && ltb 0 u.len && ltb u.len (five + 1)

abbrev pub frame_fits : InFrame → Bool
frame_fits f = run_fits f.run && reader_fits f.reader && ltb f.crc (2 ^ crc_width) && ltb f.slot 2

abbrev pub core_fits : Core → Bool
core_fits c = ltb c.quiet (idle + 1) && place_fits c.place && frame_fits c.frame
