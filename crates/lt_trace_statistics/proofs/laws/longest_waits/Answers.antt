use Rattle.lt_trace_statistics.proofs.EndedWaits.{longest_waits}
use Rattle.lt_trace_statistics.proofs.laws.longest_waits.Goals as goal

pub returns : goal.returns
returns c = longest_waits
