use Rattle.std.proofs.Common.{length}
use Rattle.lt_trace_show.specs.Bars.{KeepsArrowsWithin}
use Rattle.lt_trace_show.proofs.lanes.push_arrows.Given as goal

abbrev pub invariant-loop-ticket : goal.invariant-loop-ticket
invariant-loop-ticket l = KeepsArrowsWithin (length l.lanes) l.number l.initial.arrows.items l.arrows.items
