use Rattle.std.proofs.Common.{◌∙◌, ap, sym}
use Rattle.std.proofs.lemmas.Result.{IfOk-weaker}
use Rattle.lt_rules.specs.Table.{record_at}
use Rattle.lt_lock.specs.Hot.{hot_record}
use Rattle.lt_lock.proofs.HotKeys.{cold_by, hot_by, record_cold, record_hot}
use Rattle.lt_lock.proofs.hot_table.HotTable.state.Goals as goal

pub returns-then-not-is_hot : goal.returns-then-not-is_hot
returns-then-not-is_hot c =
    let cold = cold_by c.is_hot.result c.self.inside.hot c.args.key.now c.is_hot.ensures c.if-not-is_hot.true in
    IfOk-weaker c.state.result _ _ (λ state is. is ∙ sym (record_cold c.self.inside.hot c.self.inside.kept c.self.inside.rows c.args.key.now cold) ∙ ap (λ m. record_at m c.args.key.now) c.self.view_is) c.state.ensures

pub returns-in-Some : goal.returns-in-Some
returns-in-Some c =
    let hot = hot_by c.is_hot.result c.self.inside.hot c.args.key.now c.is_hot.ensures c.if-not-is_hot.false in
    IfOk-weaker c.state-in-Some.result _ _ (λ state is. is ∙ sym (ap hot_record c.in-Some.is) ∙ sym (record_hot c.self.inside.hot c.self.inside.kept c.self.inside.rows c.args.key.now hot) ∙ ap (λ m. record_at m c.args.key.now) c.self.view_is) c.state-in-Some.ensures
