use Rattle.lt_trace_show.specs.Owners.{HaveLanes}
use Rattle.lt_trace_show.proofs.lanes.without_repeats.Given as goal

abbrev pub invariant-loop-index : goal.invariant-loop-index
invariant-loop-index l = HaveLanes l.own.items l.lanes l.index
