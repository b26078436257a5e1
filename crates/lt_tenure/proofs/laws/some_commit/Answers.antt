use Rattle.lt_tenure.proofs.Example.{some_commit}
use Rattle.lt_tenure.proofs.laws.some_commit.Goals as goal

pub returns : goal.returns
returns c = some_commit
