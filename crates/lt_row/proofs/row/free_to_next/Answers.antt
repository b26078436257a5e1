use Rattle.std.proofs.Common.{rules}
use Rattle.lt_row.proofs.row.free_to_next.Goals as goal

pub returns-clause-ok : goal.returns-clause-ok
returns-clause-ok c = search rules

pub returns-in_err-collect_lets-clause-err : goal.returns-in_err-collect_lets-clause-err
returns-in_err-collect_lets-clause-err c = search rules
