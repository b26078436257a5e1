use Rattle.std.proofs.Common.{rules}
use Rattle.lt_table.proofs.linked.open.Goals as goal

pub returns-clause-passes : goal.returns-clause-passes
returns-clause-passes c = search rules
