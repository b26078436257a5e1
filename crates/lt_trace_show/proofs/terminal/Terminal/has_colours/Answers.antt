use Rattle.std.proofs.Common.{rules}
use Rattle.lt_trace_show.proofs.terminal.Terminal.has_colours.Goals as goal

pub returns-else-self-clause-auto : goal.returns-else-self-clause-auto
returns-else-self-clause-auto c = search rules

pub returns-then-self-clause-auto : goal.returns-then-self-clause-auto
returns-then-self-clause-auto c = search rules
