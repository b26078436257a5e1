use Rattle.lt_trace.proofs.SortLaws.{HasTaken}
use Rattle.lt_trace.proofs.merge.merge.Given as goal

abbrev pub invariant-loop : goal.invariant-loop
invariant-loop g l = HasTaken (g.W.Write.contents l.fn.writer) (g.W.Write.contents l.writer) l.fn.page l.page
