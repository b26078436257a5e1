use Rattle.std.proofs.Common.{rules}
use Rattle.lt_walk.proofs.entering.enter_on.Goals as goal

pub returns-clause-entered : goal.returns-clause-entered
returns-clause-entered c = search rules
