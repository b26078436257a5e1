use Rattle.std.proofs.Common.{◌≡◌}
use Rattle.lockbench_load.proofs.drivers.acquire_at_last.Given as goal

abbrev pub invariant-loop : goal.invariant-loop
invariant-loop g l = l.guard.pass.of ≡ l.fn.guard.pass.of
