use Rattle.std.proofs.Common.{rules}
use Rattle.lt_trace_statistics.proofs.statistics.Statistics.begin_key.Goals as goal

pub returns-clause-fresh : goal.returns-clause-fresh
returns-clause-fresh c = search rules
