use Rattle.std.proofs.Common.{rules}
use Rattle.lt_checker.proofs.cursor.make_step.Goals as goal

pub returns-clause-ok : goal.returns-clause-ok
returns-clause-ok c = search rules
