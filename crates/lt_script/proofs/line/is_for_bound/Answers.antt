use Rattle.std.proofs.Common.{rules}
use Rattle.lt_script.proofs.line.is_for_bound.Goals as goal

pub returns-else-is_bound : goal.returns-else-is_bound
returns-else-is_bound c = search rules

pub returns-then-is_bound : goal.returns-then-is_bound
returns-then-is_bound c = search rules
