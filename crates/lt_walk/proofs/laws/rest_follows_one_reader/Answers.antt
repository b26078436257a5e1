use Rattle.lt_walk.proofs.Takes.{rest_follows_one_reader}
use Rattle.lt_walk.proofs.laws.rest_follows_one_reader.Goals as goal

pub returns : goal.returns
returns c = rest_follows_one_reader
