use Rattle.std.proofs.Common.{rules}
use Rattle.lt_trace.proofs.lines.Batch.push.Goals as goal

pub returns : goal.returns
returns c = search rules
