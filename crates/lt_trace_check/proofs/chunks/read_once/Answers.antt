use Rattle.std.proofs.Common.{rules}
use Rattle.lt_trace_check.proofs.chunks.read_once.Goals as goal

pub returns-in-Err-2-clause-ok : goal.returns-in-Err-2-clause-ok
returns-in-Err-2-clause-ok c = search rules
