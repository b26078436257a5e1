use Rattle.lt_checker.proofs.First.{first_rules_hold}
use Rattle.lt_checker.proofs.laws.first_rules_hold.Goals as goal

pub returns : goal.returns
returns c = first_rules_hold
