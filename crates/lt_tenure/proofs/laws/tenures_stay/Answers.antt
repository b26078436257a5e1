use Rattle.lt_tenure.proofs.Serial.{tenures_stay}
use Rattle.lt_tenure.proofs.laws.tenures_stay.Goals as goal

pub returns : goal.returns
returns c = tenures_stay c.parts_begin.ensures c.steps_stay.ensures
