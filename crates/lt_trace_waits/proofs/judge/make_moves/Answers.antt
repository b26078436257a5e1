use Rattle.lt_trace_waits.specs.Judged.{wait_in}
use Rattle.lt_trace_waits.proofs.Leads.{next_move, next_breaks}
use Rattle.lt_trace_waits.proofs.judge.make_moves.Goals as goal

pub loop-step-preserved : goal.loop-step-preserved
loop-step-preserved c =
    next_move c.args.line (wait_in c.args.waits.now) c.loop-step.waits c.make_move.new.waits c.args.moves.now c.loop-step.step-index _ c.loop-step-test.true c.loop-step.invariant c.in_default.ensures.ok

pub returns-in-Err-clause-err : goal.returns-in-Err-clause-err
returns-in-Err-clause-err c =
    next_breaks c.args.line (wait_in c.args.waits.now) c.loop-step.waits c.args.moves.now c.loop-step.step-index _ c.in-Err.error c.loop-step-test.true c.loop-step.invariant c.in-Err.ensures.err
