use Rattle.std.proofs.Common.{rules}
use Rattle.lt_runner.proofs.whole.join.Goals as goal

pub returns-in-TurnsOut : goal.returns-in-TurnsOut
returns-in-TurnsOut c = search rules
