use Rattle.lt_waits.proofs.Latest.{later_begins}
use Rattle.lt_waits.proofs.laws.later_begins.Goals as goal

pub returns : goal.returns
returns c = later_begins
