use Rattle.lt_trace.proofs.Numbered.{numbered_is_line}
use Rattle.lt_trace.proofs.laws.numbered_is_line.Goals as goal

pub returns : goal.returns
returns c = numbered_is_line
