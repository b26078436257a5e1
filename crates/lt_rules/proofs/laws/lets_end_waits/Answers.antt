use Rattle.lt_rules.proofs.Lets.{lets_end_waits}
use Rattle.lt_rules.proofs.laws.lets_end_waits.Goals as goal

pub returns : goal.returns
returns c = lets_end_waits
