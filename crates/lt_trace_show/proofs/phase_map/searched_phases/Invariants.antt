use Rattle.std.proofs.Common.{◌≡◌, take}
use Rattle.std.specs.Prelude.{map}
use Rattle.lt_trace_show.specs.Phases.{request_phase}
use Rattle.lt_trace_show.proofs.phase_map.searched_phases.Given as goal

abbrev pub invariant-loop-number : goal.invariant-loop-number
invariant-loop-number l = l.phases.items ≡ map (λ n. request_phase n l.state) (take l.number-index l.numbers)
