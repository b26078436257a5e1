use Rattle.std.proofs.Common.{rules}
use Rattle.lt_tool.proofs.table_run.composed.Goals as goal

pub returns : goal.returns
returns c = search rules
