use Rattle.std.proofs.Common.{◌≡◌, ◌++◌, take}
use Rattle.std.specs.Prelude.{map}
use Rattle.lt_trace_show.specs.Owners.{writer_lane}
use Rattle.lt_trace_show.proofs.lanes.push_writers.Given as goal

abbrev pub invariant-loop-writer : goal.invariant-loop-writer
invariant-loop-writer l = l.lanes.items ≡ l.initial.lanes.items ++ map writer_lane (take l.writer-index l.writers)
