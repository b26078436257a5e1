use Rattle.std.proofs.Common.{◌≡◌}
use Rattle.lockbench_load.proofs.drivers.is_let_in.Given as goal

abbrev pub invariant-loop-turn : goal.invariant-loop-turn
invariant-loop-turn g l = l.guard.pass.of ≡ l.fn.guard.pass.of
