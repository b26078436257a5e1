use Rattle.lt_lock.proofs.Tables.{nothing_linked}
use Rattle.lt_lock.proofs.row_table.RowTable.new.Goals as goal

pub invariant_of-result : goal.invariant_of-result
invariant_of-result c = nothing_linked c.new.result c.with_hasher.result c.new.ensures.none c.new.ensures.sound c.with_hasher.ensures.empty
