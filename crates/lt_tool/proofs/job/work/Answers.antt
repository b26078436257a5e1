use Rattle.std.proofs.Common.{rules}
use Rattle.lt_tool.proofs.job.work.Goals as goal

pub returns-in-Check-None-clause-err : goal.returns-in-Check-None-clause-err
returns-in-Check-None-clause-err c = search rules

pub returns-in-Check-None-clause-ok : goal.returns-in-Check-None-clause-ok
returns-in-Check-None-clause-ok c = search rules
