use Rattle.example_store.proofs.Passes.{same_on}
use Rattle.example_store.proofs.store.Store.reach.Goals as goal

pub loop-preserved : goal.loop-preserved
loop-preserved g c = same_on c.args.guard.now.pass c.loop.guard.pass c.scan.new.guard.pass c.loop.invariant c.scan.ensures.same
