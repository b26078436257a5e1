use Rattle.std.proofs.Common.{◌≡◌}
use Rattle.lt_test_kit.proofs.request.await_queued.Given as goal

abbrev pub invariant-loop : goal.invariant-loop
invariant-loop g l = l.pass.of ≡ g.N.Name.of
