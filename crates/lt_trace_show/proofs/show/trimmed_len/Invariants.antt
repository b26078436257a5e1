use Rattle.std.proofs.Common.{◌≤◌, length}
use Rattle.lt_trace_show.proofs.show.trimmed_len.Given as goal

abbrev pub invariant-loop-len : goal.invariant-loop-len
invariant-loop-len l = l.len ≤ length l.line

abbrev pub decreases-loop-len : goal.decreases-loop-len
decreases-loop-len l = l.len
