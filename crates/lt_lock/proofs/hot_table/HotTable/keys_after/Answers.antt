use Rattle.std.proofs.Common.{◌≡◌, ◌∙◌, option_copied, Some, take, ap, sym, subst}
use Rattle.std.proofs.lemmas.Result.{IfOk-weaker}
use Rattle.std.specs.BTreeSet.{insert_key}
use Rattle.lt_rules.proofs.Maps.{order}
use Rattle.lt_rules.specs.Table.{keys_after}
use Rattle.lt_lock.specs.Hot.{hot_record, with_hot}
use Rattle.lt_lock.proofs.LeastKeys.{keys_with_it, keys_without_it}
use Rattle.lt_lock.proofs.hot_table.HotTable.keys_after.Goals as goal
use Rattle.lt_lock.proofs.hot_table.HotTable.keys_after.Goals.{then-comes_after+in_ok-put_least, else-comes_after}

pub returns : goal.returns
returns c =
    let after = option_copied c.args.after in
    let here : with_hot (Some c.in-Some.hot) c.self.inside.kept c.self.inside.rows ≡ c.args.self.now = subst (λ o. with_hot o c.self.inside.kept c.self.inside.rows ≡ c.args.self.now) c.in-Some.is c.self.view_is in
    let found : c.if-comes_after.least.keys ≡ keys_after c.args.self.now after c.args.at_most = elim c.if-comes_after.branch [
      | then-comes_after+in_ok-put_least w ↦
          let comes = sym c.comes_after.ensures ∙ w.if-comes_after.true in
          rw w.least-is (w.in_ok-put_least.ensures ∙ ap (λ ks. take c.args.at_most (insert_key order ks c.in-Some.hot)) c.in_ok-least.ensures ∙ keys_with_it c.self.inside.rows c.in-Some.hot (hot_record c.self.inside.kept) after c.args.at_most comes ∙ ap (λ m. keys_after m after c.args.at_most) here)
      | else-comes_after w ↦
          let comes = sym c.comes_after.ensures ∙ w.if-comes_after.false in
          rw w.least-is (c.in_ok-least.ensures ∙ keys_without_it c.self.inside.rows c.in-Some.hot (hot_record c.self.inside.kept) after c.args.at_most comes ∙ ap (λ m. keys_after m after c.args.at_most) here)
    ] in
    IfOk-weaker c.listed.result _ _ (λ all is. is ∙ found) c.listed.ensures
