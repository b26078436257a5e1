use Rattle.lt_walk.proofs.Resumed.{resumed_has_passed_each}
use Rattle.lt_walk.proofs.laws.resumed_has_passed_each.Goals as goal

pub returns : goal.returns
returns c = resumed_has_passed_each
