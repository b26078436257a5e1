use Rattle.std.proofs.Common.{rules}
use Rattle.lt_row.proofs.visit.displace.Goals as goal

pub returns-in-None-clause-no_memory : goal.returns-in-None-clause-no_memory
returns-in-None-clause-no_memory c = search rules

pub returns-in-None-clause-ok : goal.returns-in-None-clause-ok
returns-in-None-clause-ok c = search rules
