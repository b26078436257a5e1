use Rattle.std.proofs.Common.{◌-◌, length}
use Rattle.lt_walk.proofs.UnderWay.{IsPartingGuard}
use Rattle.lt_walk.proofs.leaving.leave_each.Given as goal

abbrev pub invariant-loop-leave : goal.invariant-loop-leave
invariant-loop-leave g l = IsPartingGuard l.fn.guard (record { pass = l.guard-inside.pass; walk = l.guard-inside.walk })

abbrev pub decreases-loop-leave : goal.decreases-loop-leave
decreases-loop-leave g l = length l.guard-inside.walk.asked.keys - l.guard-inside.walk.progress.index
