use Rattle.std.proofs.Common.{rules}
use Rattle.lt_trace_statistics.proofs.queue.note_queue.Goals as goal

pub returns-in_ok-copy : goal.returns-in_ok-copy
returns-in_ok-copy c = search rules
