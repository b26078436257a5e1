use Rattle.std.proofs.Common.{◌≡◌}
use Rattle.lt_table_tests.proofs.waiting.queue_player.reach.Given as goal

abbrev pub invariant-loop : goal.invariant-loop
invariant-loop g l = l.guard.pass.of ≡ g.N.Name.of
