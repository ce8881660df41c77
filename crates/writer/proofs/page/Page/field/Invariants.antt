-- The loop counts down the bits: what is left of them takes the page to where all of them would.
use Rattle.std.proofs.Common.{◌≡◌}
use Rattle.wire.specs.Bits.{bits}
use Rattle.wire.specs.Stuffing.{all}
use Rattle.writer.specs.Pages.{coding_of, drawn}
use Rattle.writer.proofs.page.Page.field.Given as goal

abbrev pub invariant-loop-left : goal.invariant-loop-left
invariant-loop-left l =
    drawn l.self (all (coding_of l.how) (bits l.left l.field.value))
    ≡ drawn l.fn.self (all (coding_of l.how) (bits l.fn.field.width l.fn.field.value))
