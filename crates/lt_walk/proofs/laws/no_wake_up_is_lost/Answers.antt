use Rattle.lt_walk.proofs.Waking.{no_wake_up_is_lost}
use Rattle.lt_walk.proofs.laws.no_wake_up_is_lost.Goals as goal

pub returns : goal.returns
returns c = no_wake_up_is_lost
