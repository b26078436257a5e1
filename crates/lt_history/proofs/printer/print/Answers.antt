use Rattle.std.proofs.Common.{rules}
use Rattle.lt_history.proofs.printer.print.Goals as goal

pub returns-clause-ok : goal.returns-clause-ok
returns-clause-ok c = search rules

pub returns-clause-write : goal.returns-clause-write
returns-clause-write c = search rules
