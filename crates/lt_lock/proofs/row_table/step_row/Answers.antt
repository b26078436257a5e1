use Rattle.std.proofs.Common.{vec_capacity, refl, subst, sym}
use mathlib.Core.Bool.{true≢false}
use Rattle.lt_rules.specs.Rules.{TakesNoMemory}
use Rattle.lt_rules.specs.Step.{step}
use Rattle.lt_rules.specs.Memory.{MayLack}
use Rattle.lt_row.specs.Row.{HasQueues}
use Rattle.lt_lock.specs.Linked.{IsEmptied}
use Rattle.lt_lock.proofs.Tables.{found, row_is, emptied_after, stepped, either_linked, either_room, on_err, err_records}
use Rattle.lt_lock.proofs.row_table.step_row.Goals as goal

-- no row is there
pub returns-in_default-clause-ok : goal.returns-in_default-clause-ok
returns-in_default-clause-ok c =
    let none = rw c.in_default.is at c.get_mut.ensures.value in
    (sym none, refl, c.get_mut.follows.holds-at-none, c.requires.lets)

pub returns-in_default-clause-linked : goal.returns-in_default-clause-linked
returns-in_default-clause-linked c = rw c.get_mut.follows.holds-at-none c.requires.table.linked

pub returns-in_default-clause-room : goal.returns-in_default-clause-room
returns-in_default-clause-room c has = rw c.get_mut.follows.holds-at-none has

-- the row is there
pub step-requires-clause-row : goal.step-requires-clause-row
step-requires-clause-row c =
    let some = rw c.in-Some.is at c.get_mut.ensures.value in
    row_is c.args.links.now c.args.rows.now c.args.key.now c.in-Some.row.now c.requires.table some

pub emptied-requires : goal.emptied-requires
emptied-requires c = let went = c.in_ok-reply.ensures.ok in subst (HasQueues c.step.new.links) (sym went.same_id) went.linked

pub returns-clause-ok : goal.returns-clause-ok
returns-clause-ok c =
    let after = c.step.new.row in
    let some = rw c.in-Some.is at c.get_mut.ensures.value in (
      stepped c.args.links.now c.step.new.links c.args.rows.now (c.get_mut.follows.lender after) c.args.key.now c.in-Some.row.now after c.requires.table some (c.get_mut.follows.holds after) (λ r. step r c.args.pass c.args.call.now) c.in_ok-reply.reply c.step.new.lets.items c.in_ok-reply.ensures.ok,
      subst (IsEmptied c.step.new.links (c.get_mut.follows.lender after) c.args.key.now) (sym c.emptied.ensures) (emptied_after c.step.new.links c.args.rows.now (c.get_mut.follows.lender after) c.args.key.now c.in-Some.row.now after some (c.get_mut.follows.holds after)),
    )

pub returns-clause-linked : goal.returns-clause-linked
returns-clause-linked c =
    let after = c.step.new.row in
    let some = rw c.in-Some.is at c.get_mut.ensures.value in
    either_linked c.args.links.now c.step.new.links c.args.rows.now (c.get_mut.follows.lender after) c.args.key.now c.in-Some.row.now after c.requires.table some (c.get_mut.follows.holds after) (λ r. step r c.args.pass c.args.call.now) c.step.new.lets.items c.step.result _ (λ same. (same.0, same.1)) c.step.ensures.ok c.step.ensures.err

pub returns-clause-room : goal.returns-clause-room
returns-clause-room c =
    let after = c.step.new.row in
    let some = rw c.in-Some.is at c.get_mut.ensures.value in
    either_room c.args.links.now c.step.new.links c.args.rows.now (c.get_mut.follows.lender after) c.args.key.now c.in-Some.row.now after c.requires.table some (c.get_mut.follows.holds after) (λ r. step r c.args.pass c.args.call.now) c.step.new.lets.items c.step.result _ (λ same. (same.0, same.1)) _ _ c.step.ensures.kept c.step.ensures.room c.step.ensures.ok c.step.ensures.err

-- an allocation failed
pub returns-in_err-reply-clause-linked : goal.returns-in_err-reply-clause-linked
returns-in_err-reply-clause-linked c =
    let after = c.step.new.row in
    let some = rw c.in-Some.is at c.get_mut.ensures.value in
    either_linked c.args.links.now c.step.new.links c.args.rows.now (c.get_mut.follows.lender after) c.args.key.now c.in-Some.row.now after c.requires.table some (c.get_mut.follows.holds after) (λ r. step r c.args.pass c.args.call.now) c.step.new.lets.items c.step.result _ (λ same. (same.0, same.1)) c.step.ensures.ok c.step.ensures.err

pub returns-in_err-reply-clause-room : goal.returns-in_err-reply-clause-room
returns-in_err-reply-clause-room c =
    let after = c.step.new.row in
    let some = rw c.in-Some.is at c.get_mut.ensures.value in
    either_room c.args.links.now c.step.new.links c.args.rows.now (c.get_mut.follows.lender after) c.args.key.now c.in-Some.row.now after c.requires.table some (c.get_mut.follows.holds after) (λ r. step r c.args.pass c.args.call.now) c.step.new.lets.items c.step.result _ (λ same. (same.0, same.1)) _ _ c.step.ensures.kept c.step.ensures.room c.step.ensures.ok c.step.ensures.err

pub returns-in_err-reply-clause-err : goal.returns-in_err-reply-clause-err
returns-in_err-reply-clause-err c =
    let after = c.step.new.row in
    let some = rw c.in-Some.is at c.get_mut.ensures.value in
    let same = c.in_err-reply.ensures.err in
    on_err c.from_residual.result _ (err_records c.args.links.now c.step.new.links c.args.rows.now (c.get_mut.follows.lender after) c.args.key.now c.in-Some.row.now after c.requires.table some (c.get_mut.follows.holds after) (λ r. step r c.args.pass c.args.call.now) c.step.new.lets.items c.step.result _ (λ x. (x.0, x.1)) same, same.2)

pub returns-in_err-reply-clause-no_memory : goal.returns-in_err-reply-clause-no_memory
returns-in_err-reply-clause-no_memory c t =
    let r = c.in-Some.row.now in
    let some = rw c.in-Some.is at c.get_mut.ensures.value in
    absurd (true≢false (sym (c.in_err-reply.ensures.no_memory (subst (λ r. TakesNoMemory r (step r c.args.pass c.args.call.now)) (found c.args.links.now c.args.rows.now c.args.key.now r some) t))))

pub returns-in_err-reply-clause-full : goal.returns-in_err-reply-clause-full
returns-in_err-reply-clause-full c =
    let some = rw c.in-Some.is at c.get_mut.ensures.value in
    on_err c.from_residual.result _ (subst (λ r. MayLack r c.args.call.now (vec_capacity c.args.lets.now)) (sym (found c.args.links.now c.args.rows.now c.args.key.now c.in-Some.row.now some)) c.in_err-reply.ensures.full)
