use Rattle.lt_walk.proofs.InPlace.{reported_stand_at_close}
use Rattle.lt_walk.proofs.laws.reported_stand_at_close.Goals as goal

pub returns : goal.returns
returns c = reported_stand_at_close
