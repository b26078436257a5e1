use Rattle.lt_trace_check.specs.Parallel.{IsCheckedPrefix}
use Rattle.lt_trace_check.proofs.parallel.check_prefix.Given as goal

abbrev pub invariant-loop : goal.invariant-loop
invariant-loop g l = IsCheckedPrefix (g.T.TextAt.contents l.text) l.prefix
