use Rattle.lt_walk.proofs.Takes.{takes_join}
use Rattle.lt_walk.proofs.laws.takes_join.Goals as goal

pub returns : goal.returns
returns c = takes_join
