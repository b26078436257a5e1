use Rattle.lt_tenure.proofs.Serial.{tenures_never_overlap}
use Rattle.lt_tenure.proofs.laws.tenures_never_overlap.Goals as goal

pub returns : goal.returns
returns c = tenures_never_overlap
