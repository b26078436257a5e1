use Rattle.lt_walk.proofs.UnderWay.{still_let}
use Rattle.lt_walk.proofs.stepping.step_in.Goals as goal

pub invariant_of-guard : goal.invariant_of-guard
invariant_of-guard g c = still_let c.step.result c.args.key.now c.args.call.now c.guard.inside.pass c.step.new.pass c.guard.inside.walk c.step.ensures.ok c.step.ensures.err c.guard.invariant
