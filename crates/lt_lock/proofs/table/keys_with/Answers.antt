use Rattle.std.proofs.Common.{sym, ◌∙◌}
use Rattle.std.proofs.lemmas.Result.{IfOk-weaker}
use Rattle.lt_lock.specs.Lone.{held}
use Rattle.lt_lock.proofs.LoneLocks.{keys_one}
use Rattle.lt_lock.proofs.table.keys_with.Goals as goal

pub returns-in-Some : goal.returns-in-Some
returns-in-Some c = rw c.in-Some.is (IfOk-weaker c.one_key.result _ _ (λ all is. is ∙ sym (keys_one c.in-Some.alone.key (held c.in-Some.alone.holder))) c.one_key.ensures)
