use Rattle.std.proofs.Common.{◌≤◌}
use Rattle.lt_trace.proofs.sort.merge_all.Given as goal

abbrev pub invariant-loop : goal.invariant-loop
invariant-loop g l = l.initial.stack.stored ≤ l.stack.stored
