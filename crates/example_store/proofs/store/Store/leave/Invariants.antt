use Rattle.lt_walk.specs.Reported.{IsSamePass}
use Rattle.example_store.proofs.store.Store.leave.Given as goal

abbrev pub invariant-loop : goal.invariant-loop
invariant-loop g l = IsSamePass l.fn.guard.pass l.staying.pass
