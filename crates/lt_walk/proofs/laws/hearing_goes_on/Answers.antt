use Rattle.lt_walk.proofs.Theorem.{hearing_goes_on}
use Rattle.lt_walk.proofs.laws.hearing_goes_on.Goals as goal

pub returns : goal.returns
returns c = hearing_goes_on
