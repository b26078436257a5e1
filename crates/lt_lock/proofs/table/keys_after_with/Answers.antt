use Rattle.std.proofs.Common.{sym, ap, ◌∙◌, take, filter, option_copied}
use Rattle.std.proofs.lemmas.Result.{IfOk-weaker}
use Rattle.lt_rules.specs.Table.{comes_after}
use Rattle.lt_lock.specs.Lone.{held}
use Rattle.lt_lock.proofs.LoneLocks.{keys_one}
use Rattle.lt_lock.proofs.table.keys_after_with.Goals as goal

pub returns-in-Some : goal.returns-in-Some
returns-in-Some c =
    rw c.in-Some.is (IfOk-weaker c.one_key_after.result _ _ (λ all is. is ∙ ap (λ ks. take c.args.at_most (filter (comes_after (option_copied c.args.after)) ks)) (sym (keys_one c.in-Some.alone.key (held c.in-Some.alone.holder)))) c.one_key_after.ensures)
