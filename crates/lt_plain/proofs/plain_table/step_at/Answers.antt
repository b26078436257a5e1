use Rattle.std.proofs.Common.{subst, sym, OnErr, vec_capacity}
use Rattle.std.proofs.lemmas.Result.{IfOk-weaker, on_err_weaker}
use Rattle.lt_rules.specs.Rules.{Record, IsOutcome, TakesNoMemory}
use Rattle.lt_rules.specs.Step.{step}
use Rattle.lt_rules.specs.Memory.{MayLack}
use Rattle.lt_plain.specs.Plain.{tree_records}
use Rattle.lt_plain.proofs.Trees.{found, missing, written, act_written, same_written, room_free, room_written}
use Rattle.lt_plain.proofs.plain_table.step_at.Goals as goal

-- no record is there
pub step_free-requires : goal.step_free-requires
step_free-requires c =
    let none = rw c.in_default.is at c.get_mut.ensures.value in
    rw c.get_mut.follows.holds-at-none (missing c.args.records.now c.args.key.now none)

pub returns-in_default-clause-ok : goal.returns-in_default-clause-ok
returns-in_default-clause-ok c = rw c.requires (rw c.get_mut.follows.holds-at-none at c.step_free.ensures.ok)

pub returns-in_default-clause-err : goal.returns-in_default-clause-err
returns-in_default-clause-err c = rw (← c.get_mut.follows.holds-at-none) (on_err_weaker c.step_free.result (λ same. (same, c.requires)) c.step_free.ensures.err)

pub returns-in_default-clause-no_memory : goal.returns-in_default-clause-no_memory
returns-in_default-clause-no_memory c = rw c.get_mut.follows.holds-at-none at c.step_free.ensures.no_memory

pub returns-in_default-clause-full : goal.returns-in_default-clause-full
returns-in_default-clause-full c =
    let none = rw c.in_default.is at c.get_mut.ensures.value in
    on_err_weaker c.step_free.result (λ lacks. subst (λ (r : Record). MayLack r c.args.call.now (vec_capacity c.args.lets.now)) (sym (missing c.args.records.now c.args.key.now none)) (lacks (vec_capacity c.args.lets.now))) c.step_free.ensures.full

pub returns-in_default-clause-room : goal.returns-in_default-clause-room
returns-in_default-clause-room c has =
    let none = rw c.in_default.is at c.get_mut.ensures.value in
    let ok = rw c.get_mut.follows.holds-at-none at c.step_free.ensures.ok in
    let err = rw c.get_mut.follows.holds-at-none at c.step_free.ensures.err in
    room_free (tree_records c.args.records.now) (tree_records c.step_free.new.records) c.args.key.now c.args.pass c.args.call.now c.step_free.result (vec_capacity c.args.lets.now) (missing c.args.records.now c.args.key.now none) ok err has

-- the record is there
pub returns-clause-ok : goal.returns-clause-ok
returns-clause-ok c =
    let r = c.in-Some.record.now in
    let after = c.step.new.self in
    let some = rw c.in-Some.is at c.get_mut.ensures.value in
    let u = written c.args.records.now (c.get_mut.follows.lender after) c.args.key.now r after some (c.get_mut.follows.holds after) in
    IfOk-weaker c.step.result (λ reply. IsOutcome (step r c.args.pass c.args.call.now) after reply c.step.new.lets.items) _
    (λ reply is. act_written c.args.records.now (c.get_mut.follows.lender after) c.args.key.now r after (λ r. step r c.args.pass c.args.call.now) reply c.step.new.lets.items (found c.args.records.now c.args.key.now r some) u is)
    c.step.ensures.ok

pub returns-clause-err : goal.returns-clause-err
returns-clause-err c =
    let r = c.in-Some.record.now in
    let after = c.step.new.self in
    let some = rw c.in-Some.is at c.get_mut.ensures.value in
    let u = written c.args.records.now (c.get_mut.follows.lender after) c.args.key.now r after some (c.get_mut.follows.holds after) in
    on_err_weaker c.step.result (λ same. (same_written c.args.records.now (c.get_mut.follows.lender after) c.args.key.now r after some u same.0, same.1)) c.step.ensures.err

pub returns-clause-no_memory : goal.returns-clause-no_memory
returns-clause-no_memory c t =
    let r = c.in-Some.record.now in
    let some = rw c.in-Some.is at c.get_mut.ensures.value in
    c.step.ensures.no_memory (subst (λ (r : Record). TakesNoMemory r (step r c.args.pass c.args.call.now)) (found c.args.records.now c.args.key.now r some) t)

pub returns-clause-full : goal.returns-clause-full
returns-clause-full c =
    let r = c.in-Some.record.now in
    let some = rw c.in-Some.is at c.get_mut.ensures.value in
    subst (λ (r : Record). OnErr c.step.result (MayLack r c.args.call.now (vec_capacity c.args.lets.now))) (sym (found c.args.records.now c.args.key.now r some)) c.step.ensures.full

pub returns-clause-room : goal.returns-clause-room
returns-clause-room c has =
    let r = c.in-Some.record.now in
    let after = c.step.new.self in
    let some = rw c.in-Some.is at c.get_mut.ensures.value in
    let u = written c.args.records.now (c.get_mut.follows.lender after) c.args.key.now r after some (c.get_mut.follows.holds after) in
    room_written c.args.records.now (c.get_mut.follows.lender after) c.args.key.now r after (vec_capacity c.args.lets.now) (vec_capacity c.step.new.lets) some u c.step.ensures.kept c.step.ensures.room has
