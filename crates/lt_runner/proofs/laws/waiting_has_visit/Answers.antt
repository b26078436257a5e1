use Rattle.lt_runner.proofs.Waiting.{waiting_visit}
use Rattle.lt_runner.proofs.laws.waiting_has_visit.Goals as goal

pub returns : goal.returns
returns c = waiting_visit
