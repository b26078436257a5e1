use Rattle.std.proofs.Common.{◌∙◌, ◌≤◌, Some, vec_capacity, ap, sym, subst, arith}
use Rattle.std.proofs.lemmas.Result.{IfOk-weaker, on_err_weaker}
use Rattle.lt_rules.specs.Rules.{TakesNoMemory}
use Rattle.lt_rules.specs.Step.{step}
use Rattle.lt_rules.specs.Memory.{HasRoom, MayLack, how_many}
use Rattle.lt_rules.specs.Table.{IsStep, record_at}
use Rattle.lt_lock.specs.Hot.{hot_record, with_hot, IsWithHot}
use Rattle.lt_lock.proofs.HotKeys.{cold_by, hot_by, record_cold, record_hot, step_at_cold, step_at_hot, with_cold_either, with_hot_either, sound_with_hot, rows_have_room, record_has_room, both_have_room, more_room}
use Rattle.lt_lock.proofs.hot_table.HotTable.step.Goals as goal

-- another key than the hot one
pub invariant_of-self : goal.invariant_of-self
invariant_of-self c =
    let cold = cold_by c.is_hot.result c.self.inside.hot c.args.key.now c.is_hot.ensures c.if-not-is_hot.true in
    with_cold_either c.step.result _ c.self.inside.hot c.self.inside.kept c.self.inside.rows c.step.new.self c.args.key.now (λ r. step r c.args.pass c.args.call.now) c.step.new.lets.items cold c.self.invariant c.step.ensures.sound c.step.ensures.ok c.step.ensures.err

pub returns-then-not-is_hot-clause-ok : goal.returns-then-not-is_hot-clause-ok
returns-then-not-is_hot-clause-ok c =
    let cold = cold_by c.is_hot.result c.self.inside.hot c.args.key.now c.is_hot.ensures c.if-not-is_hot.true in
    IfOk-weaker c.step.result _ _ (λ reply made. subst (λ m. IsStep m c.args.key.now (λ r. step r c.args.pass c.args.call.now) reply c.step.new.lets.items (with_hot c.self.inside.hot c.self.inside.kept c.step.new.self)) c.self.view_is
    (step_at_cold c.self.inside.hot c.self.inside.kept c.self.inside.rows c.step.new.self c.args.key.now (λ r. step r c.args.pass c.args.call.now) reply c.step.new.lets.items cold made)) c.step.ensures.ok

pub returns-then-not-is_hot-clause-sound : goal.returns-then-not-is_hot-clause-sound
returns-then-not-is_hot-clause-sound c = sound_with_hot c.self.inside.hot c.self.inside.kept c.step.new.self (invariant_of-self c)

pub returns-then-not-is_hot-clause-no_memory : goal.returns-then-not-is_hot-clause-no_memory
returns-then-not-is_hot-clause-no_memory c = λ t.
    let cold = cold_by c.is_hot.result c.self.inside.hot c.args.key.now c.is_hot.ensures c.if-not-is_hot.true in
    let at = sym (ap (λ m. record_at m c.args.key.now) c.self.view_is) ∙ record_cold c.self.inside.hot c.self.inside.kept c.self.inside.rows c.args.key.now cold in
    c.step.ensures.no_memory (subst (λ r. TakesNoMemory r (step r c.args.pass c.args.call.now)) at t)

pub returns-then-not-is_hot-clause-full : goal.returns-then-not-is_hot-clause-full
returns-then-not-is_hot-clause-full c =
    let cold = cold_by c.is_hot.result c.self.inside.hot c.args.key.now c.is_hot.ensures c.if-not-is_hot.true in
    let at = sym (record_cold c.self.inside.hot c.self.inside.kept c.self.inside.rows c.args.key.now cold) ∙ ap (λ m. record_at m c.args.key.now) c.self.view_is in
    on_err_weaker c.step.result (subst (λ r. MayLack r c.args.call.now (vec_capacity c.args.lets.now)) at) c.step.ensures.full

pub returns-then-not-is_hot-clause-room : goal.returns-then-not-is_hot-clause-room
returns-then-not-is_hot-clause-room c = λ has.
    let before : HasRoom (with_hot c.self.inside.hot c.self.inside.kept c.self.inside.rows) (vec_capacity c.args.lets.now) = subst (λ m. HasRoom m (vec_capacity c.args.lets.now)) (sym c.self.view_is) has in
    both_have_room c.self.inside.hot c.self.inside.kept c.step.new.self (vec_capacity c.step.new.lets)
    (c.step.ensures.room (rows_have_room c.self.inside.hot c.self.inside.kept c.self.inside.rows (vec_capacity c.args.lets.now) c.self.invariant before))
    (let few = record_has_room c.self.inside.hot c.self.inside.kept c.self.inside.rows (vec_capacity c.args.lets.now) c.self.invariant before in
    let more = c.step.ensures.kept in
    omega (arith, few, more))

-- the hot key
pub invariant_of-self-2 : goal.invariant_of-self-2
invariant_of-self-2 c =
    let hot = hot_by c.is_hot.result c.self.inside.hot c.args.key.now c.is_hot.ensures c.if-not-is_hot.false in
    with_hot_either c.step_hot.result _ c.self.inside.hot c.step_hot.new.hot c.args.key.now c.self.inside.kept c.in-Some.record c.step_hot.new.own c.self.inside.rows c.args.pass c.args.call.now c.step_hot.new.lets.items hot c.in-Some.is c.self.invariant c.step_hot.ensures.ok c.step_hot.ensures.err

pub returns-clause-ok : goal.returns-clause-ok
returns-clause-ok c =
    let hot = hot_by c.is_hot.result c.self.inside.hot c.args.key.now c.is_hot.ensures c.if-not-is_hot.false in
    let w = subst (λ o. IsWithHot c.self.inside.hot o c.self.inside.rows) c.in-Some.is c.self.invariant in
    IfOk-weaker c.step_hot.result _ _ (λ reply made. subst (λ m. IsStep m c.args.key.now (λ r. step r c.args.pass c.args.call.now) reply c.step_hot.new.lets.items (with_hot c.step_hot.new.hot (Some c.step_hot.new.own) c.self.inside.rows)) (sym (ap (λ o. with_hot c.self.inside.hot o c.self.inside.rows) c.in-Some.is) ∙ c.self.view_is)
    (step_at_hot c.self.inside.hot c.step_hot.new.hot c.args.key.now (Some c.in-Some.record) (Some c.step_hot.new.own) c.self.inside.rows c.args.pass c.args.call.now c.step_hot.new.lets.items reply hot w made)) c.step_hot.ensures.ok

pub returns-clause-sound : goal.returns-clause-sound
returns-clause-sound c = sound_with_hot c.step_hot.new.hot (Some c.step_hot.new.own) c.self.inside.rows (invariant_of-self-2 c)

pub returns-clause-no_memory : goal.returns-clause-no_memory
returns-clause-no_memory c = λ t.
    let hot = hot_by c.is_hot.result c.self.inside.hot c.args.key.now c.is_hot.ensures c.if-not-is_hot.false in
    let at = sym (ap (λ m. record_at m c.args.key.now) c.self.view_is) ∙ record_hot c.self.inside.hot c.self.inside.kept c.self.inside.rows c.args.key.now hot ∙ ap hot_record c.in-Some.is in
    c.step_hot.ensures.no_memory (subst (λ r. TakesNoMemory r (step r c.args.pass c.args.call.now)) at t)

pub returns-clause-full : goal.returns-clause-full
returns-clause-full c =
    let hot = hot_by c.is_hot.result c.self.inside.hot c.args.key.now c.is_hot.ensures c.if-not-is_hot.false in
    let at = sym (record_hot c.self.inside.hot c.self.inside.kept c.self.inside.rows c.args.key.now hot ∙ ap hot_record c.in-Some.is) ∙ ap (λ m. record_at m c.args.key.now) c.self.view_is in
    on_err_weaker c.step_hot.result (subst (λ r. MayLack r c.args.call.now (vec_capacity c.args.lets.now)) at) c.step_hot.ensures.full

pub returns-clause-room : goal.returns-clause-room
returns-clause-room c = λ has.
    let before : HasRoom (with_hot c.self.inside.hot c.self.inside.kept c.self.inside.rows) (vec_capacity c.args.lets.now) = subst (λ m. HasRoom m (vec_capacity c.args.lets.now)) (sym c.self.view_is) has in
    let rows = rows_have_room c.self.inside.hot c.self.inside.kept c.self.inside.rows (vec_capacity c.args.lets.now) c.self.invariant before in
    let few = record_has_room c.self.inside.hot c.self.inside.kept c.self.inside.rows (vec_capacity c.args.lets.now) c.self.invariant before in
    both_have_room c.step_hot.new.hot (Some c.step_hot.new.own) c.self.inside.rows (vec_capacity c.step_hot.new.lets)
    (more_room c.self.inside.rows (vec_capacity c.args.lets.now) (vec_capacity c.step_hot.new.lets) c.step_hot.ensures.kept rows)
    (c.step_hot.ensures.room (subst (λ o. how_many (hot_record o) ≤ vec_capacity c.args.lets.now) c.in-Some.is few))
