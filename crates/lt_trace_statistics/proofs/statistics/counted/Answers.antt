use Rattle.std.proofs.Common.{rules}
use Rattle.lt_trace_statistics.proofs.statistics.counted.Goals as goal

pub returns-clause-lets : goal.returns-clause-lets
returns-clause-lets c = search rules
