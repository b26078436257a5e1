use Rattle.std.proofs.Common.{◌≡◌, take}
use Rattle.std.specs.Prelude.{map}
use Rattle.lt_trace_show.specs.Phases.{phase_of}
use Rattle.lt_trace_show.proofs.timeline.each_first_phase.Given as goal

abbrev pub invariant-loop-index : goal.invariant-loop-index
invariant-loop-index l = l.phases.items ≡ map (λ x. phase_of x l.state) (take l.index l.lanes)
