use Rattle.example_store.proofs.Passes.{same_on}
use Rattle.example_store.proofs.store.Store.push.Goals as goal

pub returns-then-eq : goal.returns-then-eq
returns-then-eq g c = record { same = same_on c.args.pass.now c.deadlocked.new.pass c.deadlocked-2.new.pass c.deadlocked.ensures.same c.deadlocked-2.ensures.same }

pub returns-else-eq : goal.returns-else-eq
returns-else-eq g c = record { same = same_on c.args.pass.now c.deadlocked.new.pass c.deadlocked-2.new.pass c.deadlocked.ensures.same c.deadlocked-2.ensures.same }
