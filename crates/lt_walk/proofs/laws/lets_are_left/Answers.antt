use Rattle.lt_walk.proofs.LetsLeft.{lets_are_left}
use Rattle.lt_walk.proofs.laws.lets_are_left.Goals as goal

pub returns : goal.returns
returns c = lets_are_left
