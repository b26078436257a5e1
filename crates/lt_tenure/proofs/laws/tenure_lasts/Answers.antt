use Rattle.lt_tenure.proofs.Following.{tenure_lasts}
use Rattle.lt_tenure.proofs.laws.tenure_lasts.Goals as goal

pub returns : goal.returns
returns c = tenure_lasts
