use Rattle.lt_walk.specs.Reported.{IsSamePass}
use Rattle.example_store.proofs.store.Store.reach.Given as goal

abbrev pub invariant-loop : goal.invariant-loop
invariant-loop g l = IsSamePass l.initial.guard.pass l.guard.pass
