use Rattle.std.proofs.Common.{sym, subst, IfSome}
use Rattle.std.specs.FinMap.{get-empty}
use Rattle.lt_rules.specs.Table.{AreSound, IsKept}
use Rattle.lt_rules.proofs.Maps.{order}
use Rattle.lt_lock.proofs.table.LinkedTable.new.Goals as goal

pub invariant_of-result : goal.invariant_of-result
invariant_of-result c = record {
  alone = λ some. c.new.ensures;
  sound = subst AreSound (sym c.new.ensures) (λ q. subst (λ o. IfSome o IsKept) (sym (get-empty order q)) tt);
}
