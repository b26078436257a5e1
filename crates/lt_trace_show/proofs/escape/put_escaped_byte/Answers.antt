use Rattle.std.proofs.Common.{rules}
use Rattle.lt_trace_show.proofs.escape.put_escaped_byte.Goals as goal

pub returns-in-38 : goal.returns-in-38
returns-in-38 c = search rules
