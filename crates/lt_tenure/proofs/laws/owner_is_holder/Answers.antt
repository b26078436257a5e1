use Rattle.lt_tenure.proofs.Holders.{owner_is_holder}
use Rattle.lt_tenure.proofs.laws.owner_is_holder.Goals as goal

pub returns : goal.returns
returns c = owner_is_holder
