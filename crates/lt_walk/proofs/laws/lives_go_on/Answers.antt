use Rattle.lt_walk.proofs.Lives.{lives_go_on}
use Rattle.lt_walk.proofs.laws.lives_go_on.Goals as goal

pub returns : goal.returns
returns c = lives_go_on
