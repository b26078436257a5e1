use Rattle.lt_walk.proofs.Takes.{rest_joins}
use Rattle.lt_walk.proofs.laws.rest_joins.Goals as goal

pub returns : goal.returns
returns c = rest_joins
