use Rattle.std.proofs.Common.{◌≡◌, ◌++◌, map, take, drop}
use Rattle.lt_handles.specs.Shapes.{raw_key_name}
use Rattle.lt_c.proofs.lists.write_keys.Given as goal

abbrev pub invariant-loop-i : goal.invariant-loop-i
invariant-loop-i l = l.array ≡ map raw_key_name (take l.i l.keys) ++ drop l.i l.fn.array
