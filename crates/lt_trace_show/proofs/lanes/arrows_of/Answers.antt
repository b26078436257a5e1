use Rattle.std.proofs.Common.{arith, length}
use Rattle.lt_trace_show.proofs.lanes.arrows_of.Goals as goal

pub loop-index-preserved : goal.loop-index-preserved
loop-index-preserved c = c.in_ok-push_arrows.ensures (length c.args.steps.now) (omega arith) c.loop-index.invariant
