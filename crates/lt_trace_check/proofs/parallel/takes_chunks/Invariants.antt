use Rattle.lt_trace_check.specs.Parallel.{IsTaking}
use Rattle.lt_trace_check.proofs.parallel.takes_chunks.Given as goal

abbrev pub invariant-loop : goal.invariant-loop
invariant-loop g l = IsTaking (g.R.Read.remaining l.fn.reader) (g.R.Read.remaining l.reader) l.fn.checker l.checker l.pending.items
