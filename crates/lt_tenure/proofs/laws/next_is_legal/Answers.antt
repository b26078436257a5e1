use Rattle.lt_tenure.proofs.Following.{next_is_legal}
use Rattle.lt_tenure.proofs.laws.next_is_legal.Goals as goal

pub returns : goal.returns
returns c = next_is_legal
