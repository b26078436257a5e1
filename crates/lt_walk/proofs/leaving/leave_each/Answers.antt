use Rattle.std.proofs.Common.{ap, sym, ◌∙◌, rules}
use Rattle.lt_rules.specs.declared.call.Call.TheVariants.{Leave}
use Rattle.lt_walk.specs.Machine.{Step}
use Rattle.lt_walk.specs.Reported.{GuardState, Reported}
use Rattle.lt_walk.proofs.Parting.{next_leave-is, no_leave}
use Rattle.lt_walk.proofs.UnderWay.{IsPartingGuard-more}
use Rattle.lt_walk.proofs.leaving.leave_each.Goals as goal

pub loop-leave-preserved : goal.loop-leave-preserved
loop-leave-preserved g c =
    let x : Step = record { key = c.key.result.now; call = c.leave_call-leave.result; answer = c.in_ok-answer.answer } in
    let now : GuardState = record { pass = c.loop-leave.guard-inside.pass; walk = c.loop-leave.guard-inside.walk } in
    let reported : Reported now.pass c.step.new.pass x = search rules in
    IsPartingGuard-more c.args.guard.now now x c.step.new.pass c.leave_one.new.self c.loop-leave.invariant
    (next_leave-is now.walk.asked now.walk.progress x.key x.call c.key.ensures
    (c.leave_call-leave.ensures.call ∙ ap (λ g. Leave g.walk.asked.number) c.guard.view_is ∙ ap (λ a. Leave a.number) (sym c.loop-leave.invariant.parting.run.stays)))
    c.leave_one.ensures reported

pub returns-clause-ok : goal.returns-clause-ok
returns-clause-ok g c = no_leave c.loop-leave.guard-inside.walk.asked c.loop-leave.guard-inside.walk.progress (sym c.has_leave.ensures ∙ c.loop-leave-test.false)
