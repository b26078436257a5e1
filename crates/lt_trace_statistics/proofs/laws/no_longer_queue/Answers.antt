use Rattle.lt_trace_statistics.proofs.Longest.{no_longer_queue}
use Rattle.lt_trace_statistics.proofs.laws.no_longer_queue.Goals as goal

pub returns : goal.returns
returns c = no_longer_queue
