use Rattle.lt_tenure.proofs.Following.{last_freed_is_last}
use Rattle.lt_tenure.proofs.laws.last_freed_is_last.Goals as goal

pub returns : goal.returns
returns c = last_freed_is_last
