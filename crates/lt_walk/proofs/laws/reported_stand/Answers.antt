use Rattle.lt_walk.proofs.InPlace.{reported_stand}
use Rattle.lt_walk.proofs.laws.reported_stand.Goals as goal

pub returns : goal.returns
returns c = reported_stand
