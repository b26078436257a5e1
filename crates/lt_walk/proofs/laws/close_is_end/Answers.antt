use Rattle.lt_walk.proofs.Theorem.{close_is_end}
use Rattle.lt_walk.proofs.laws.close_is_end.Goals as goal

pub returns : goal.returns
returns c = close_is_end
