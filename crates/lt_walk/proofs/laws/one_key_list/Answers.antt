use Rattle.lt_walk.proofs.OneList.{one_key_list}
use Rattle.lt_walk.proofs.laws.one_key_list.Goals as goal

pub returns : goal.returns
returns c = one_key_list
