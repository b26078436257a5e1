use Rattle.lt_walk.specs.Closed.{passes_of, AreCounted}
use Rattle.lt_try.proofs.closing.count_fault.Given as goal

abbrev pub invariant-loop-index : goal.invariant-loop-index
invariant-loop-index g l = AreCounted l.wanted (passes_of l.passes l.guards) l.shards l.index
