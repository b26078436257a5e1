use Rattle.std.proofs.Common.{List, ℕ, Option}
use Rattle.lt_trace_check.specs.Audit.{IsReading}
use Rattle.lt_trace_check.proofs.stream.check_rest.Given as goal

abbrev pub invariant-loop : goal.invariant-loop
invariant-loop g l = (source : Option (List ℕ)) → IsReading source (g.R.Read.remaining l.fn.reader) l.fn.checker l.fn.pending.items → IsReading source (g.R.Read.remaining l.reader) l.checker l.pending.items
