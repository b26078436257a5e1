use Rattle.lt_runner.proofs.Waiting.{long_visit}
use Rattle.lt_runner.proofs.laws.long_has_visit.Goals as goal

pub returns : goal.returns
returns c = long_visit
