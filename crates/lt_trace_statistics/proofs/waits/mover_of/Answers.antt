use Rattle.std.proofs.Common.{rules}
use Rattle.lt_trace_statistics.proofs.waits.mover_of.Goals as goal

pub returns-in-Leave : goal.returns-in-Leave
returns-in-Leave c = search rules
