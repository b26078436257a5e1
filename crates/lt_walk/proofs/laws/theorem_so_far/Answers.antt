use Rattle.lt_walk.proofs.Theorem.{theorem_so_far}
use Rattle.lt_walk.proofs.laws.theorem_so_far.Goals as goal

pub returns : goal.returns
returns c = theorem_so_far c.one_holder_at_each_key.ensures c.reads_pass_at_each_key.ensures c.lets_stay.ensures c.parts_are_legal.ensures
