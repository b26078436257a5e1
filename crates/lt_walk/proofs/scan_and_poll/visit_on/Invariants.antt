use Rattle.lt_walk.proofs.Going.{left}
use Rattle.lt_walk.proofs.UnderWay.{IsUnderWay}
use Rattle.lt_walk.proofs.scan_and_poll.visit_on.Given as goal

abbrev pub invariant-loop-guard : goal.invariant-loop-guard
invariant-loop-guard g l =
    IsUnderWay (record { pass = l.initial.guard-inside.pass; walk = l.initial.guard-inside.walk }) l.max_waits (record { pass = l.guard-inside.pass; walk = l.guard-inside.walk })

abbrev pub decreases-loop-guard : goal.decreases-loop-guard
decreases-loop-guard g l = left l.guard-inside.walk
