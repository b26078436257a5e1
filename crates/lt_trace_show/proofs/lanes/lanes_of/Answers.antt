use Rattle.lt_trace_show.proofs.Standing.{have_drawn}
use Rattle.lt_trace_show.proofs.lanes.lanes_of.Goals as goal

pub returns-clause-everybody : goal.returns-clause-everybody
returns-clause-everybody c = λ shown are. have_drawn c.in_ok-lanes.lanes.items c.args.before.now shown c.args.steps.now are c.in_ok-lanes.ensures
