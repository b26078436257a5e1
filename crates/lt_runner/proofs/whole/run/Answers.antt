use Rattle.std.proofs.Common.{rules}
use Rattle.lt_runner.proofs.whole.run.Goals as goal

pub returns : goal.returns
returns c = search rules
