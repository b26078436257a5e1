use Rattle.lt_walk.proofs.Theorem.{fresh_have_heard_nothing}
use Rattle.lt_walk.proofs.laws.fresh_have_heard_nothing.Goals as goal

pub returns : goal.returns
returns c = fresh_have_heard_nothing
