use Rattle.std.proofs.Common.{drop}
use Rattle.lt_trace_show.proofs.Followed.{Reaches}
use Rattle.lt_trace_show.proofs.timeline.timeline.Given as goal

abbrev pub invariant-loop-step : goal.invariant-loop-step
invariant-loop-step l = Reaches l.lane l.fn.first l.steps l.phases.items l.latest (drop l.step-index l.steps)
