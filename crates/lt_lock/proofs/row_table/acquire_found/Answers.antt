use Rattle.std.proofs.Common.{◌≡◌, ◌<◌, inl, inr, true, length, vec_capacity, refl, sym, subst}
use Rattle.std.proofs.lemmas.Result.{on_err_weaker}
use Rattle.lt_rules.specs.Rules.{TakesNoMemory, is_empty, acquire}
use Rattle.lt_rules.specs.declared.call.Call.TheVariants.{Acquire}
use Rattle.lt_rules.proofs.Lawfulness.{step_keeps_lawful}
use Rattle.lt_rules.proofs.Filled.{acquire_filled}
use Rattle.lt_row.specs.Row.{record_of}
use Rattle.lt_lock.proofs.Tables.{found, missing, row_is, ok_step, either_table, err_records}
use Rattle.lt_lock.proofs.row_table.acquire_found.Goals as goal

-- no row is there
pub returns-in_default-clause-no_memory : goal.returns-in_default-clause-no_memory
returns-in_default-clause-no_memory c t =
    let none = rw c.in_default.is at c.get_mut.ensures.value in
    absurd (subst (λ r. TakesNoMemory r (acquire r c.args.txn c.args.ts)) (missing c.args.links.now c.args.rows.now c.args.key.now none) t)

pub returns-in_default-clause-full : goal.returns-in_default-clause-full
returns-in_default-clause-full c =
    let none = rw c.in_default.is at c.get_mut.ensures.value in
    inl (subst (λ r. is_empty r ≡ true) (sym (missing c.args.links.now c.args.rows.now c.args.key.now none)) refl)

-- the row is there
pub acquire-requires-clause-row : goal.acquire-requires-clause-row
acquire-requires-clause-row c =
    let some = rw c.in-Some.is at c.get_mut.ensures.value in
    row_is c.args.links.now c.args.rows.now c.args.key.now c.in-Some.row.now c.requires.table some

pub returns-clause-ok : goal.returns-clause-ok
returns-clause-ok c =
    let after = c.acquire.new.row in
    let some = rw c.in-Some.is at c.get_mut.ensures.value in
    ok_step c.args.links.now c.acquire.new.links c.args.rows.now (c.get_mut.follows.lender after) c.args.key.now c.in-Some.row.now after c.requires.table some (c.get_mut.follows.holds after) (λ r. acquire r c.args.txn c.args.ts) c.acquire.new.lets.items c.acquire.result c.acquire.ensures.ok

pub returns-clause-table : goal.returns-clause-table
returns-clause-table c =
    let after = c.acquire.new.row in
    let some = rw c.in-Some.is at c.get_mut.ensures.value in
    either_table c.args.links.now c.acquire.new.links c.args.rows.now (c.get_mut.follows.lender after) c.args.key.now c.in-Some.row.now after c.requires.table some (c.get_mut.follows.holds after) (λ r. acquire r c.args.txn c.args.ts) c.acquire.new.lets.items c.acquire.result _ (λ same. (same.0, same.1)) (λ q. step_keeps_lawful q 0 (Acquire c.args.txn c.args.ts)) (acquire_filled (record_of c.args.links.now c.in-Some.row.now) c.args.txn c.args.ts) c.acquire.ensures.ok c.acquire.ensures.err

pub returns-clause-err : goal.returns-clause-err
returns-clause-err c =
    let after = c.acquire.new.row in
    let some = rw c.in-Some.is at c.get_mut.ensures.value in
    on_err_weaker c.acquire.result (λ same. (err_records c.args.links.now c.acquire.new.links c.args.rows.now (c.get_mut.follows.lender after) c.args.key.now c.in-Some.row.now after c.requires.table some (c.get_mut.follows.holds after) (λ r. acquire r c.args.txn c.args.ts) c.acquire.new.lets.items c.acquire.result _ (λ x. (x.0, x.1)) same, same.2)) c.acquire.ensures.err

pub returns-clause-no_memory : goal.returns-clause-no_memory
returns-clause-no_memory c t =
    let r = c.in-Some.row.now in
    let some = rw c.in-Some.is at c.get_mut.ensures.value in
    c.acquire.ensures.no_memory (subst (λ r. TakesNoMemory r (acquire r c.args.txn c.args.ts)) (found c.args.links.now c.args.rows.now c.args.key.now r some) t)

pub returns-clause-full : goal.returns-clause-full
returns-clause-full c =
    let some = rw c.in-Some.is at c.get_mut.ensures.value in
    on_err_weaker c.acquire.result (λ lacks. inr (subst (λ r. vec_capacity c.args.lets.now < length (acquire r c.args.txn c.args.ts).lets) (sym (found c.args.links.now c.args.rows.now c.args.key.now c.in-Some.row.now some)) lacks)) c.acquire.ensures.full
