use Rattle.lt_trace_check.specs.Audit.{IsReading}
use Rattle.lt_trace_check.proofs.explained.explain.Given as goal

abbrev pub invariant-loop : goal.invariant-loop
invariant-loop g l = IsReading (g.R.Read.remaining l.fn.reader) (g.R.Read.remaining l.reader) l.checker l.pending.items
