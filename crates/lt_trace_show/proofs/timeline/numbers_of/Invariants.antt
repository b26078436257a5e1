use Rattle.std.proofs.Common.{◌≡◌, take}
use Rattle.std.specs.Prelude.{map}
use Rattle.lt_trace_show.specs.Phases.{number_of_lane}
use Rattle.lt_trace_show.proofs.timeline.numbers_of.Given as goal

abbrev pub invariant-loop-lane : goal.invariant-loop-lane
invariant-loop-lane l = l.numbers.items ≡ map number_of_lane (take l.lane-index l.lanes)
