use Rattle.std.proofs.Common.{◌≢◌, ◌≤◌, []}
use Rattle.lt_trace.proofs.sort.store.Given as goal

abbrev pub invariant-loop : goal.invariant-loop
invariant-loop g l = record {
  some : l.stack.runs.items ≢ [];
  stored : 1 ≤ l.stack.stored;
}
