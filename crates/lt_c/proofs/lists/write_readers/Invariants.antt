use Rattle.std.proofs.Common.{◌≡◌, ◌++◌, map, take, drop}
use Rattle.lt_handles.specs.Shapes.{raw_reader}
use Rattle.lt_c.proofs.lists.write_readers.Given as goal

abbrev pub invariant-loop-i : goal.invariant-loop-i
invariant-loop-i l = l.array ≡ map raw_reader (take l.i l.readers) ++ drop l.i l.fn.array
