use Rattle.lt_tenure.proofs.Serial.{tenures_are_serial}
use Rattle.lt_tenure.proofs.laws.tenures_are_serial.Goals as goal

pub returns : goal.returns
returns c = tenures_are_serial c.parts_begin.ensures
