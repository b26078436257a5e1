use Rattle.std.proofs.Common.{◌∙◌}
use Rattle.lt_trace_show.proofs.lanes.bars_of.Goals as goal

pub returns-clause-bars : goal.returns-clause-bars
returns-clause-bars c = λ shown drawn. c.in_ok-bars.ensures.bars c.args.before.now shown drawn (c.deref.ensures.value ∙ c.in_ok-first.ensures)

pub returns-clause-all : goal.returns-clause-all
returns-clause-all c = λ shown drawn. c.in_ok-bars.ensures.all c.args.before.now shown drawn (c.deref.ensures.value ∙ c.in_ok-first.ensures)
