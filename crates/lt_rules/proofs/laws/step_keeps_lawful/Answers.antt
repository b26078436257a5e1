use Rattle.lt_rules.proofs.Lawfulness.{step_keeps_lawful}
use Rattle.lt_rules.proofs.laws.step_keeps_lawful.Goals as goal

pub returns : goal.returns
returns c = step_keeps_lawful
