-- The loop counts up the bytes: what is left of them takes the sheet to where all of them would.
use Rattle.std.proofs.Common.{◌≡◌, drop}
use Rattle.wire.specs.Fields.{raw, data_fields}
use Rattle.writer.specs.Pages.{laid}
use Rattle.writer.proofs.sheet.Sheet.bytes.Given as goal

abbrev pub invariant-loop-byte : goal.invariant-loop-byte
invariant-loop-byte l =
    laid l.self (raw (data_fields (drop l.byte-index l.bytes))) ≡ laid l.fn.self (raw (data_fields l.bytes))
