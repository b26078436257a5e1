use Rattle.std.proofs.Common.{All, length}
use Rattle.lt_trace_show.specs.Bars.{IsArrowWithin}
use Rattle.lt_trace_show.proofs.lanes.arrows_of.Given as goal

abbrev pub invariant-loop-index : goal.invariant-loop-index
invariant-loop-index l = All (IsArrowWithin (length l.steps) (length l.lanes)) l.arrows.items
