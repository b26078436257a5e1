use Rattle.lt_walk.proofs.Passing.{proceed_has_passed_each}
use Rattle.lt_walk.proofs.laws.proceed_has_passed_each.Goals as goal

pub returns : goal.returns
returns c = proceed_has_passed_each
