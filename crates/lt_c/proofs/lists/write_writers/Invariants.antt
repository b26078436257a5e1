use Rattle.std.proofs.Common.{◌≡◌, ◌++◌, map, take, drop}
use Rattle.lt_handles.specs.Shapes.{raw_writer}
use Rattle.lt_c.proofs.lists.write_writers.Given as goal

abbrev pub invariant-loop-i : goal.invariant-loop-i
invariant-loop-i l = l.array ≡ map raw_writer (take l.i l.writers) ++ drop l.i l.fn.array
