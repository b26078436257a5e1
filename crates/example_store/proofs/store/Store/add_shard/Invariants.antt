use Rattle.lt_walk.specs.Reported.{IsSamePass}
use Rattle.example_store.proofs.store.Store.add_shard.Given as goal

abbrev pub invariant-loop-key : goal.invariant-loop-key
invariant-loop-key g l = IsSamePass l.fn.pass l.pass
