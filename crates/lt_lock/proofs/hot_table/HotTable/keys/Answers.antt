use Rattle.std.proofs.Common.{◌<◌, ◌∙◌, length, subst, arith}
use Rattle.std.proofs.lemmas.Result.{IfOk-weaker}
use Rattle.lt_lock.proofs.LeastKeys.{all_of_few}
use Rattle.lt_lock.proofs.hot_table.HotTable.keys.Goals as goal

pub returns : goal.returns
returns c = IfOk-weaker c.keys_after.result _ _ (λ all is.
    let small = all.small in
    let fits = all.ok.1 in
    let as_long = all.ok.0 in
    let few : length all.items < 18446744073709551615 = omega (arith, small, fits, as_long) in
    is ∙ all_of_few c.args.self.now 18446744073709551615 (subst (λ ks. length ks < 18446744073709551615) is few)) c.keys_after.ensures
