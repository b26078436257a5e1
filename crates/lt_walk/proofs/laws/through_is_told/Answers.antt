use Rattle.lt_walk.proofs.Theorem.{through_is_told}
use Rattle.lt_walk.proofs.laws.through_is_told.Goals as goal

pub returns : goal.returns
returns c = through_is_told
