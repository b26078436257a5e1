use Rattle.lt_rules.specs.declared.call.Call.TheVariants.{Look}
use Rattle.lt_walk.proofs.UnderWay.{still_let}
use Rattle.lt_walk.proofs.stepping.look_on.Goals as goal

pub invariant_of-guard : goal.invariant_of-guard
invariant_of-guard g c = still_let c.step.result c.key_at.result.now (Look c.number-number.result) c.guard.inside.pass c.step.new.pass c.guard.inside.walk c.step.ensures.ok c.step.ensures.err c.guard.invariant
