use Rattle.lt_walk.proofs.Lives.{reads_pass_at_close}
use Rattle.lt_walk.proofs.laws.reads_pass_at_close.Goals as goal

pub returns : goal.returns
returns c = reads_pass_at_close c.reads_pass_at_each_key.ensures
