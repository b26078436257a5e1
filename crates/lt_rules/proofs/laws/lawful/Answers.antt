use Rattle.lt_rules.proofs.Lawfulness.{lawful}
use Rattle.lt_rules.proofs.laws.lawful.Goals as goal

pub returns : goal.returns
returns c = lawful
