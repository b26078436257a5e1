use Rattle.lt_rules.proofs.Lawfulness.{least_is_next}
use Rattle.lt_rules.proofs.laws.least_is_next.Goals as goal

pub returns : goal.returns
returns c = least_is_next
