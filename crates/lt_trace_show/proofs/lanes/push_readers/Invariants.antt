use Rattle.std.proofs.Common.{◌≡◌, ◌++◌, take}
use Rattle.std.specs.Prelude.{map}
use Rattle.lt_trace_show.specs.Owners.{request_lane}
use Rattle.lt_trace_show.proofs.lanes.push_readers.Given as goal

abbrev pub invariant-loop-reader : goal.invariant-loop-reader
invariant-loop-reader l = l.lanes.items ≡ l.initial.lanes.items ++ map request_lane (take l.reader-index l.readers)
