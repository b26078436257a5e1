use Rattle.std.proofs.Common.{◌≡◌, ◌≢◌, ◌≤◌, []}
use Rattle.lt_trace.proofs.SortLaws.{IsCollecting}
use Rattle.lt_trace.proofs.sort.collect.Given as goal

abbrev pub invariant-loop-number : goal.invariant-loop-number
invariant-loop-number g l = record {
  collecting : IsCollecting l.options.form (g.R.Read.remaining l.fn.input) (g.R.Read.remaining l.input) l.number l.steps (l.stack.runs.items ≡ []) l.fn.batch.lines.items l.batch.lines.items;
  stored : l.stack.runs.items ≢ [] → (l.fn.stack.runs.items ≢ [] → 1 ≤ l.fn.stack.stored) → 1 ≤ l.stack.stored;
}
