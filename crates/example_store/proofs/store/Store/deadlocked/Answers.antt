use Rattle.example_store.proofs.Passes.{same_on}
use Rattle.example_store.proofs.store.Store.deadlocked.Goals as goal

pub loop-shard-preserved : goal.loop-shard-preserved
loop-shard-preserved g c = same_on c.args.pass.now c.loop-shard.pass c.add_shard.new.pass c.loop-shard.invariant c.add_shard.ensures.same
