use Rattle.std.proofs.Common.{◌≡◌, take}
use Rattle.lt_trace_show.specs.Owners.{named_lanes}
use Rattle.lt_trace_show.proofs.lanes.everybody.Given as goal

abbrev pub invariant-loop-step : goal.invariant-loop-step
invariant-loop-step l = l.lanes.items ≡ named_lanes l.before (take l.step-index l.steps)
