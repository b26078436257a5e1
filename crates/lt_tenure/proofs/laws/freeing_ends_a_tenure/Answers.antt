use Rattle.lt_tenure.proofs.Following.{freeing_ends_a_tenure}
use Rattle.lt_tenure.proofs.laws.freeing_ends_a_tenure.Goals as goal

pub returns : goal.returns
returns c = freeing_ends_a_tenure
