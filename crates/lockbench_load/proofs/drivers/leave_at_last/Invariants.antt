use Rattle.std.proofs.Common.{◌≡◌}
use Rattle.lockbench_load.proofs.drivers.leave_at_last.Given as goal

abbrev pub invariant-loop : goal.invariant-loop
invariant-loop g l = l.staying.pass.of ≡ g.N.Name.of
