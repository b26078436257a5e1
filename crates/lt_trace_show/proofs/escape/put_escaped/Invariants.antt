use Rattle.std.proofs.Common.{◌≡◌, ◌++◌, take}
use Rattle.std.specs.List.{flat_map}
use Rattle.lt_trace_show.specs.Escape.{escaped_byte}
use Rattle.lt_trace_show.proofs.escape.put_escaped.Given as goal

abbrev pub invariant-loop-b : goal.invariant-loop-b
invariant-loop-b l = l.out.items ≡ l.initial.out.items ++ flat_map escaped_byte (take l.b-index l.bytes)
