use Rattle.std.proofs.Common.{◌≡◌}
use Rattle.lt_log_tests.proofs.race.one_step_each.Given as goal

abbrev pub invariant-loop-shard : goal.invariant-loop-shard
invariant-loop-shard g l = l.pass.of ≡ l.initial.pass.of
