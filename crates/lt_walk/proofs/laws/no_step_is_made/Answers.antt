use Rattle.lt_walk.proofs.Lives.{no_step_is_made}
use Rattle.lt_walk.proofs.laws.no_step_is_made.Goals as goal

pub returns : goal.returns
returns c = no_step_is_made
