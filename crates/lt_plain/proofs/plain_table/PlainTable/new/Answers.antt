use Rattle.std.specs.FinMap.{get-empty}
use Rattle.lt_rules.proofs.Maps.{order}
use Rattle.lt_plain.proofs.plain_table.PlainTable.new.Goals as goal

pub invariant_of-result : goal.invariant_of-result
invariant_of-result c q = rw (c.new.ensures.empty, get-empty order q) tt
