use Rattle.lt_walk.proofs.WentOn.{leave_stays, begun_stays}
use Rattle.lt_walk.proofs.leaving.leave_on.Goals as goal

pub returns-clause-stays : goal.returns-clause-stays
returns-clause-stays g c = begun_stays c.args.guard.now c.begin_leave.new.self c.leave_each.new.guard c.begin_leave.ensures (leave_stays c.begin_leave.new.self c.leave_each.new.guard c.leave_each.ensures.leave)
