use Rattle.lt_tenure.proofs.Committed.{committed_are_serial}
use Rattle.lt_tenure.proofs.laws.committed_are_serial.Goals as goal

pub returns : goal.returns
returns c = committed_are_serial c.parts_begin.ensures c.steps_stay.ensures
