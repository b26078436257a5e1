use Rattle.lt_tenure.proofs.Example.{example_owners}
use Rattle.lt_tenure.proofs.laws.example_owners.Goals as goal

pub returns : goal.returns
returns c = example_owners
