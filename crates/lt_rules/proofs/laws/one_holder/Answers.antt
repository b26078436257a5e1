use Rattle.lt_rules.proofs.Holders.{one_holder}
use Rattle.lt_rules.proofs.laws.one_holder.Goals as goal

pub returns : goal.returns
returns c = one_holder
