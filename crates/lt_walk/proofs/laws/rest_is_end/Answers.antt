use Rattle.lt_walk.proofs.Theorem.{rest_is_end}
use Rattle.lt_walk.proofs.laws.rest_is_end.Goals as goal

pub returns : goal.returns
returns c = rest_is_end
