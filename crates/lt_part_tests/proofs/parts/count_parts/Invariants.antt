use Rattle.std.proofs.Common.{◌≡◌}
use Rattle.lt_part_tests.proofs.parts.count_parts.Given as goal

-- the pass stays one of the table's
abbrev pub invariant-loop-after : goal.invariant-loop-after
invariant-loop-after g l = l.pass.of ≡ g.N.Name.of
