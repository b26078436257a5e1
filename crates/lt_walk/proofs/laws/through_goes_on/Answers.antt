use Rattle.lt_walk.proofs.Follows.{through_goes_on}
use Rattle.lt_walk.proofs.laws.through_goes_on.Goals as goal

pub returns : goal.returns
returns c = through_goes_on
