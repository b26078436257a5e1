use Rattle.std.proofs.Common.{rules}
use Rattle.lt_trace_show.proofs.terminal.Terminal.chosen_width.Goals as goal

pub returns-then-not-self-clause-file : goal.returns-then-not-self-clause-file
returns-then-not-self-clause-file c = search rules
