use Rattle.std.proofs.Common.{rules}
use Rattle.lt_tool.proofs.input.read_text.Goals as goal

pub returns-clause-bound : goal.returns-clause-bound
returns-clause-bound c = search rules

pub returns-clause-ok : goal.returns-clause-ok
returns-clause-ok c = search rules
