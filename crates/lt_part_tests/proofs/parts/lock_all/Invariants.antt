use Rattle.std.proofs.Common.{◌≡◌}
use Rattle.lt_part_tests.proofs.parts.lock_all.Given as goal

-- the pass stays one of the table's
abbrev pub invariant-loop-letter : goal.invariant-loop-letter
invariant-loop-letter g l = l.pass.of ≡ g.N.Name.of
