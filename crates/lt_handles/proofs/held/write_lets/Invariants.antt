use Rattle.std.proofs.Common.{◌≡◌, ◌++◌, map, take, drop}
use Rattle.lt_handles.specs.Shapes.{raw_let}
use Rattle.lt_handles.proofs.held.write_lets.Given as goal

abbrev pub invariant-loop-i : goal.invariant-loop-i
invariant-loop-i l = l.array ≡ map raw_let (take l.i l.lets) ++ drop l.i l.fn.array
