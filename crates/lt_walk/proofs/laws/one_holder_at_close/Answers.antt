use Rattle.lt_walk.proofs.Lives.{one_holder_at_close}
use Rattle.lt_walk.proofs.laws.one_holder_at_close.Goals as goal

pub returns : goal.returns
returns c = one_holder_at_close c.one_holder_at_each_key.ensures
