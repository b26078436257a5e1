use Rattle.lt_walk.proofs.Theorem.{main_theorem}
use Rattle.lt_walk.proofs.laws.main_theorem.Goals as goal

pub returns : goal.returns
returns c = main_theorem c.one_holder_at_each_key.ensures c.reads_pass_at_each_key.ensures c.lets_stay.ensures
