use Rattle.std.proofs.Common.{◌≡◌, take}
use Rattle.std.specs.List.{flat_map}
use Rattle.lt_trace_show.specs.Escape.{printable_byte}
use Rattle.lt_trace_show.proofs.escape.are_printable.Given as goal

abbrev pub invariant-loop-b : goal.invariant-loop-b
invariant-loop-b l = flat_map printable_byte (take l.b-index l.bytes) ≡ take l.b-index l.bytes
