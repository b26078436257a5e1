use Rattle.std.proofs.Common.{◌-◌, length}
use Rattle.lt_trace_show.proofs.whose.first_claim.Given as goal

abbrev pub invariant-loop-at : goal.invariant-loop-at
invariant-loop-at l = Unit {0}

abbrev pub decreases-loop-at : goal.decreases-loop-at
decreases-loop-at l = length l.claims - l.at
