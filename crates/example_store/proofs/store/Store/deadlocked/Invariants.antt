use Rattle.lt_walk.specs.Reported.{IsSamePass}
use Rattle.example_store.proofs.store.Store.deadlocked.Given as goal

abbrev pub invariant-loop-shard : goal.invariant-loop-shard
invariant-loop-shard g l = IsSamePass l.initial.pass l.pass
