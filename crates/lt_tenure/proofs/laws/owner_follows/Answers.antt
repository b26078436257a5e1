use Rattle.lt_tenure.proofs.Following.{owner_follows}
use Rattle.lt_tenure.proofs.laws.owner_follows.Goals as goal

pub returns : goal.returns
returns c = owner_follows
