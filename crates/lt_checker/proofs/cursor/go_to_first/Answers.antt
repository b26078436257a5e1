use Rattle.std.proofs.Common.{Some, ap, refl}
use Rattle.lt_checker.proofs.cursor.go_to_first.Goals as goal

pub returns-clause-ok : goal.returns-clause-ok
returns-clause-ok c = record {
  counted = c.if-index-ne1.false;
  key_is = ap Some c.in_ok-copy.ensures.same;
  index_is = refl;
  state_is = c.clear.ensures;
}
