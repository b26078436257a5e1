use Rattle.lt_walk.proofs.Found.{found}
use Rattle.lt_walk.proofs.keys.is_among.Goals as goal

pub returns : goal.returns
returns c = rw c.is_ok.ensures.value (found c.args.keys.now c.args.key.now c.binary_search.result c.requires c.binary_search.ensures.bound c.binary_search.ensures.position)
