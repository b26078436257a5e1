use Rattle.lt_tenure.proofs.Following.{last_freed_follows}
use Rattle.lt_tenure.proofs.laws.last_freed_follows.Goals as goal

pub returns : goal.returns
returns c = last_freed_follows
