use Rattle.std.proofs.Common.{◌≡◌, ◌++◌, take}
use Rattle.std.specs.Prelude.{map}
use Rattle.lt_trace_show.specs.declared.timeline.Lane.TheVariants.{Request}
use Rattle.lt_trace_show.proofs.lanes.push_numbers.Given as goal

abbrev pub invariant-loop-number : goal.invariant-loop-number
invariant-loop-number l = l.lanes.items ≡ l.initial.lanes.items ++ map Request (take l.number-index l.numbers)
