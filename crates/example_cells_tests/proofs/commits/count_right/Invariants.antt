use Rattle.std.proofs.Common.{◌≡◌}
use Rattle.example_cells_tests.proofs.commits.count_right.Given as goal

abbrev pub invariant-loop-row : goal.invariant-loop-row
invariant-loop-row g l = l.pass.of ≡ g.N.Name.of
