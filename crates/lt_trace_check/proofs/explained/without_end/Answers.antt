use Rattle.std.proofs.Common.{rules}
use Rattle.lt_trace_check.proofs.explained.without_end.Goals as goal

pub returns-in-Some-eq10-default : goal.returns-in-Some-eq10-default
returns-in-Some-eq10-default c = search rules
