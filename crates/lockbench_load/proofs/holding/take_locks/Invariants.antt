use Rattle.std.proofs.Common.{◌≡◌}
use Rattle.lockbench_load.proofs.holding.take_locks.Given as goal

abbrev pub invariant-loop-index : goal.invariant-loop-index
invariant-loop-index g l = l.pass.of ≡ g.N.Name.of
