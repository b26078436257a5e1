use Rattle.std.proofs.Common.{rules, ◌≡◌, ◌∙◌, IsSome, vec_capacity, None, refl, sym, ap, subst}
use mathlib.Core.Bool.{true≢false}
use Rattle.std.proofs.lemmas.Result.{IfOk-weaker, on_err_weaker}
use Rattle.std.specs.FinMap as finmap
use Rattle.lt_rules.specs.Rules.{TakesNoMemory, empty}
use Rattle.lt_rules.specs.Step.{step}
use Rattle.lt_rules.specs.Memory.{HasRoom, MayLack}
use Rattle.lt_rules.specs.Table.{IsStep, record_at}
use Rattle.lt_lock.specs.Lone.{with_lone, StepsAlone}
use Rattle.lt_lock.proofs.LoneLocks.{nobody_waits, record_none, sound_with}
use Rattle.lt_lock.proofs.table.LinkedTableKeyTable.step.Goals as goal

-- a lone lock answers: there is no row
no_row : (c : goal.In-Some) → c.self.inside.rows ≡ finmap.empty
no_row c = c.self.invariant.alone (c.step_alone.ensures.was (subst IsSome (sym c.in-Some.is) refl))

pub returns-in-Some-clause-ok : goal.returns-in-Some-clause-ok
returns-in-Some-clause-ok c = rw (← c.self.view_is, no_row c, c.requires.lets) (c.in-Some.ensures.some c.args.pass)

pub returns-in-Some-clause-sound : goal.returns-in-Some-clause-sound
returns-in-Some-clause-sound c = sound_with c.step_alone.new.lone c.self.inside.rows (record { alone = λ some. no_row c; sound = c.self.invariant.sound })

pub returns-in-Some-clause-room : goal.returns-in-Some-clause-room
returns-in-Some-clause-room c = λ has. subst (λ m. HasRoom (with_lone c.step_alone.new.lone m) (vec_capacity c.args.lets.now)) (sym (no_row c)) (nobody_waits c.step_alone.new.lone (vec_capacity c.args.lets.now))

-- there was no lock
rows_none : (c : goal.After-step_first) → c.self.inside.rows ≡ finmap.empty
rows_none c = (c.has_no_lock.ensures.0 c.if-has_no_lock.true).1

now_none : (c : goal.After-step_first) → c.args.self.now ≡ finmap.empty
now_none c =
    let lone : c.self.inside.lone ≡ None = sym c.in_default.ensures.none.0 ∙ (c.has_no_lock.ensures.0 c.if-has_no_lock.true).0 in
    sym c.self.view_is ∙ ap (λ l. with_lone l c.self.inside.rows) lone ∙ rows_none c

pub returns-then-has_no_lock-clause-ok : goal.returns-then-has_no_lock-clause-ok
returns-then-has_no_lock-clause-ok c =
    IfOk-weaker c.step_first.result (StepsAlone c.step_alone.new.lone c.step_first.new.lone c.args.key.now c.args.call.now) (λ reply. IsStep c.args.self.now c.args.key.now (λ r. step r c.args.pass c.args.call.now) reply c.args.lets.now.items (with_lone c.step_first.new.lone c.self.inside.rows))
    (λ reply went. rw (← c.self.view_is, rows_none c, c.requires.lets, ← c.in_default.ensures.none.0) (went c.args.pass)) c.step_first.ensures.ok

pub returns-then-has_no_lock-clause-sound : goal.returns-then-has_no_lock-clause-sound
returns-then-has_no_lock-clause-sound c = sound_with c.step_first.new.lone c.self.inside.rows (record { alone = λ some. rows_none c; sound = c.self.invariant.sound })

pub returns-then-has_no_lock-clause-no_memory : goal.returns-then-has_no_lock-clause-no_memory
returns-then-has_no_lock-clause-no_memory c = λ t.
    let at : record_at c.args.self.now c.args.key.now ≡ empty = ap (λ m. record_at m c.args.key.now) (now_none c) ∙ record_none c.args.key.now in
    c.step_first.ensures.no_memory c.args.pass (subst (λ r. TakesNoMemory r (step r c.args.pass c.args.call.now)) at t)

pub returns-then-has_no_lock-clause-full : goal.returns-then-has_no_lock-clause-full
returns-then-has_no_lock-clause-full c =
    let at : record_at c.args.self.now c.args.key.now ≡ empty = ap (λ m. record_at m c.args.key.now) (now_none c) ∙ record_none c.args.key.now in
    on_err_weaker c.step_first.result (λ may. subst (λ r. MayLack r c.args.call.now (vec_capacity c.args.lets.now)) (sym at) (may (vec_capacity c.args.lets.now))) c.step_first.ensures.full

pub returns-then-has_no_lock-clause-room : goal.returns-then-has_no_lock-clause-room
returns-then-has_no_lock-clause-room c = λ has. subst (λ m. HasRoom (with_lone c.step_first.new.lone m) (vec_capacity c.args.lets.now)) (sym (rows_none c)) (nobody_waits c.step_first.new.lone (vec_capacity c.args.lets.now))

-- the lone lock got no row
pub returns-in_err-add_row-clause-sound : goal.returns-in_err-add_row-clause-sound
returns-in_err-add_row-clause-sound c = sound_with c.add_row.new.lone c.add_row.new.rows c.add_row.ensures.with_lone

-- the rows made the step
pub returns-clause-sound : goal.returns-clause-sound
returns-clause-sound c =
    let none : c.add_row.new.lone ≡ None = search rules in
    sound_with c.add_row.new.lone c.step.new.self (record { alone = λ some. absurd (true≢false (sym (subst IsSome none some))); sound = c.step.ensures.sound })
