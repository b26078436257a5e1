use Rattle.std.proofs.Common.{rules}
use Rattle.lt_lock.proofs.row_table.emptied.Goals as goal

pub returns-then-is_empty : goal.returns-then-is_empty
returns-then-is_empty c = search rules
