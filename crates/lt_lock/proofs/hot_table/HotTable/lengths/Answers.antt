use Rattle.std.proofs.Common.{◌∙◌, length, ap, sym}
use Rattle.lt_rules.specs.Table.{record_at}
use Rattle.lt_lock.specs.Hot.{hot_record}
use Rattle.lt_lock.proofs.HotKeys.{cold_by, hot_by, record_cold, record_hot}
use Rattle.lt_lock.proofs.hot_table.HotTable.lengths.Goals as goal

pub returns-then-not-is_hot-clause-writers : goal.returns-then-not-is_hot-clause-writers
returns-then-not-is_hot-clause-writers c =
    let cold = cold_by c.is_hot.result c.self.inside.hot c.args.key.now c.is_hot.ensures c.if-not-is_hot.true in
    c.lengths.ensures.writers ∙ ap (λ r. length r.writers) (sym (record_cold c.self.inside.hot c.self.inside.kept c.self.inside.rows c.args.key.now cold) ∙ ap (λ m. record_at m c.args.key.now) c.self.view_is)

pub returns-then-not-is_hot-clause-readers : goal.returns-then-not-is_hot-clause-readers
returns-then-not-is_hot-clause-readers c =
    let cold = cold_by c.is_hot.result c.self.inside.hot c.args.key.now c.is_hot.ensures c.if-not-is_hot.true in
    c.lengths.ensures.readers ∙ ap (λ r. length r.readers) (sym (record_cold c.self.inside.hot c.self.inside.kept c.self.inside.rows c.args.key.now cold) ∙ ap (λ m. record_at m c.args.key.now) c.self.view_is)

pub returns-in-Some-clause-writers : goal.returns-in-Some-clause-writers
returns-in-Some-clause-writers c =
    let hot = hot_by c.is_hot.result c.self.inside.hot c.args.key.now c.is_hot.ensures c.if-not-is_hot.false in
    c.lengths-in-Some.ensures.writers ∙ ap (λ r. length r.writers) (sym (ap hot_record c.in-Some.is) ∙ sym (record_hot c.self.inside.hot c.self.inside.kept c.self.inside.rows c.args.key.now hot) ∙ ap (λ m. record_at m c.args.key.now) c.self.view_is)

pub returns-in-Some-clause-readers : goal.returns-in-Some-clause-readers
returns-in-Some-clause-readers c =
    let hot = hot_by c.is_hot.result c.self.inside.hot c.args.key.now c.is_hot.ensures c.if-not-is_hot.false in
    c.lengths-in-Some.ensures.readers ∙ ap (λ r. length r.readers) (sym (ap hot_record c.in-Some.is) ∙ sym (record_hot c.self.inside.hot c.self.inside.kept c.self.inside.rows c.args.key.now hot) ∙ ap (λ m. record_at m c.args.key.now) c.self.view_is)
