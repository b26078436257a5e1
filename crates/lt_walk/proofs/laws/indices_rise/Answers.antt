use Rattle.lt_walk.proofs.InPlace.{indices_rise}
use Rattle.lt_walk.proofs.laws.indices_rise.Goals as goal

pub returns : goal.returns
returns c = indices_rise
