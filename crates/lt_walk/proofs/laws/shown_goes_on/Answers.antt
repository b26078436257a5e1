use Rattle.lt_walk.proofs.Waking.{shown_goes_on}
use Rattle.lt_walk.proofs.laws.shown_goes_on.Goals as goal

pub returns : goal.returns
returns c = shown_goes_on
