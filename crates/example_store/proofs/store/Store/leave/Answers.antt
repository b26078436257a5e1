use Rattle.example_store.proofs.Passes.{same_on, same_of_stays}
use Rattle.example_store.proofs.store.Store.leave.Goals as goal

pub loop-preserved : goal.loop-preserved
loop-preserved g c = same_on c.args.guard.pass c.loop.staying.pass c.in-Err.field-0.guard.pass c.loop.invariant (same_of_stays c.loop.staying.pass c.in-Err.field-0.guard.pass c.in-Err.ensures.stopped.pass)

pub returns-in-Ok : goal.returns-in-Ok
returns-in-Ok g c = record { same = same_on c.args.guard.pass c.loop.staying.pass c.in-Ok.field-0.pass c.loop.invariant (same_of_stays c.loop.staying.pass c.in-Ok.field-0.pass c.in-Ok.ensures.left) }
