use Rattle.std.proofs.Common.{arith}
use Rattle.lt_trace_show.proofs.Followed.{reaches_step, reaches_last}
use Rattle.lt_trace_show.proofs.timeline.timeline.Goals as goal

pub loop-step-preserved : goal.loop-step-preserved
loop-step-preserved c = rw c.in_ok-push-2.ensures.items (reaches_step c.args.lane c.args.first c.args.steps.now c.loop-step.phases.items c.loop-step.latest c.phase_after-latest.result c.loop-step.step-index c.step-item.result c.loop-step-test.true c.step-item.is c.phase_after-latest.ensures c.loop-step.invariant)

pub returns : goal.returns
returns c = reaches_last c.args.lane c.args.first c.args.steps.now c.loop-step.phases.items c.loop-step.latest c.loop-step.step-index (omega (arith, c.loop-step-test.false)) c.loop-step.invariant
