use Rattle.std.proofs.Common.{rules}
use Rattle.lt_trace_statistics.proofs.waits.note_wait.Goals as goal

pub returns-else-wait_len-saturating_sub : goal.returns-else-wait_len-saturating_sub
returns-else-wait_len-saturating_sub c = search rules

pub returns-in_ok-copy : goal.returns-in_ok-copy
returns-in_ok-copy c = search rules
