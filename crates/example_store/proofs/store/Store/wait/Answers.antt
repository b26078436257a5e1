use Rattle.example_store.proofs.Passes.{same_on}
use Rattle.example_store.proofs.store.Store.wait.Goals as goal

pub loop-preserved : goal.loop-preserved
loop-preserved g c = same_on c.args.guard.now.pass c.loop.guard.pass c.wait_once.new.guard.pass c.loop.invariant c.wait_once.ensures.same
