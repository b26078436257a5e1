use Rattle.std.proofs.Common.{rules, ◌≡◌, ◌<◌, inl, inr, true, length, vec_capacity, Some, None, [], refl, sym, subst}
use Rattle.std.proofs.lemmas.Result.{on_err_weaker}
use Rattle.std.specs.HashMap.{UpdatesBy}
use Rattle.std.specs.Str.{bytes_eq}
use Rattle.lt_rules.specs.Rules.{TakesNoMemory, is_empty, acquire}
use Rattle.lt_rules.specs.Table.{record_at}
use Rattle.lt_rules.specs.declared.call.Call.TheVariants.{Acquire}
use Rattle.lt_rules.specs.declared.call.Reply.TheVariants.{Taken}
use Rattle.lt_rules.proofs.Lawfulness.{step_keeps_lawful}
use Rattle.lt_rules.proofs.Filled.{acquire_filled}
use Rattle.lt_rules.proofs.Maps.{act_alike, sound_filled}
use Rattle.lt_row.specs.declared.row.Row.{Row}
use Rattle.lt_row.specs.Row.{record_of}
use Rattle.lt_lock.specs.Linked.{row_at, records_of, IsTable}
use Rattle.lt_lock.proofs.Tables.{on_err, row_is, found, missing, kept_table, entry_step, entry_records, entry_table, inserted_step, inserted_linked}
use Rattle.lt_lock.proofs.row_table.acquire_entry.Goals as goal

pub acquire-requires-clause-row : goal.acquire-requires-clause-row
acquire-requires-clause-row c =
    let some : Some c.into_mut.result.now ≡ row_at c.args.rows.now c.args.key = search rules in
    row_is c.args.links.now c.args.rows.now c.args.key c.into_mut.result.now c.requires.table some

-- no memory for a new key
pub returns-in_err-found-clause-table : goal.returns-in_err-found-clause-table
returns-in_err-found-clause-table c =
    let same : c.entry.follows.lender-at-none.entries ≡ c.args.rows.now.entries = search rules in
    kept_table c.args.links.now c.args.rows.now c.entry.follows.lender-at-none same c.requires.table

pub returns-in_err-found-clause-no_memory : goal.returns-in_err-found-clause-no_memory
returns-in_err-found-clause-no_memory c t =
    let gone : None ≡ row_at c.args.rows.now c.args.key = search rules in
    absurd (subst (λ r. TakesNoMemory r (acquire r c.args.txn c.args.ts)) (missing c.args.links.now c.args.rows.now c.args.key gone) t)

pub returns-in_default-clause-table : goal.returns-in_default-clause-table
returns-in_default-clause-table c =
    let same : c.rows-in_default-1.given.0.entries ≡ c.args.rows.now.entries = search rules in
    let links : c.add_record.new.self ≡ c.args.links.now = search rules in
    subst (λ m. IsTable m c.rows-in_default-1.given.0) (sym links) (kept_table c.args.links.now c.args.rows.now c.rows-in_default-1.given.0 same c.requires.table)

pub returns-in_default-clause-no_memory : goal.returns-in_default-clause-no_memory
returns-in_default-clause-no_memory c t =
    let gone : None ≡ row_at c.args.rows.now c.args.key = search rules in
    absurd (subst (λ r. TakesNoMemory r (acquire r c.args.txn c.args.ts)) (missing c.args.links.now c.args.rows.now c.args.key gone) t)

-- the key has a row
pub returns-in-Occupied-clause-ok : goal.returns-in-Occupied-clause-ok
returns-in-Occupied-clause-ok c =
    let some : Some c.into_mut.result.now ≡ row_at c.args.rows.now c.args.key = search rules in
    let u : UpdatesBy bytes_eq (bytes_eq c.args.key) c.args.rows.now c.rows-in-Occupied-2-1.given.0 (Some c.acquire.new.row) = search rules in
    entry_step c.args.links.now c.acquire.new.links c.args.rows.now c.rows-in-Occupied-2-1.given.0 c.args.key c.into_mut.result.now c.acquire.new.row c.requires.table some u (λ r. acquire r c.args.txn c.args.ts) c.acquire.new.lets.items c.acquire.result c.acquire.ensures.ok

pub returns-in-Occupied-clause-table : goal.returns-in-Occupied-clause-table
returns-in-Occupied-clause-table c =
    let some : Some c.into_mut.result.now ≡ row_at c.args.rows.now c.args.key = search rules in
    let u : UpdatesBy bytes_eq (bytes_eq c.args.key) c.args.rows.now c.rows-in-Occupied-2-1.given.0 (Some c.acquire.new.row) = search rules in
    entry_table c.args.links.now c.acquire.new.links c.args.rows.now c.rows-in-Occupied-2-1.given.0 c.args.key c.into_mut.result.now c.acquire.new.row c.requires.table some u (λ r. acquire r c.args.txn c.args.ts) c.acquire.new.lets.items c.acquire.result _ (λ same. (same.0, same.1)) (λ q. step_keeps_lawful q 0 (Acquire c.args.txn c.args.ts)) (acquire_filled (record_of c.args.links.now c.into_mut.result.now) c.args.txn c.args.ts) c.acquire.ensures.ok c.acquire.ensures.err

pub returns-in-Occupied-clause-err : goal.returns-in-Occupied-clause-err
returns-in-Occupied-clause-err c =
    let some : Some c.into_mut.result.now ≡ row_at c.args.rows.now c.args.key = search rules in
    let u : UpdatesBy bytes_eq (bytes_eq c.args.key) c.args.rows.now c.rows-in-Occupied-2-1.given.0 (Some c.acquire.new.row) = search rules in
    on_err_weaker c.acquire.result (λ same. (entry_records c.args.links.now c.acquire.new.links c.args.rows.now c.rows-in-Occupied-2-1.given.0 c.args.key c.into_mut.result.now c.acquire.new.row c.requires.table some u (λ r. acquire r c.args.txn c.args.ts) c.acquire.new.lets.items c.acquire.result _ (λ x. (x.0, x.1)) same, same.2)) c.acquire.ensures.err

pub returns-in-Occupied-clause-no_memory : goal.returns-in-Occupied-clause-no_memory
returns-in-Occupied-clause-no_memory c t =
    let some : Some c.into_mut.result.now ≡ row_at c.args.rows.now c.args.key = search rules in
    c.acquire.ensures.no_memory (subst (λ r. TakesNoMemory r (acquire r c.args.txn c.args.ts)) (found c.args.links.now c.args.rows.now c.args.key c.into_mut.result.now some) t)

-- the key gets a row
pub returns-in-Ok-clause-ok : goal.returns-in-Ok-clause-ok
returns-in-Ok-clause-ok c =
    let row : Row = record { id = c.in-Ok.id; holder = Some (record { txn = c.args.txn; ts = c.args.ts }); distinguished = None } in
    let gone : None ≡ row_at c.args.rows.now c.args.key = search rules in
    let u : UpdatesBy bytes_eq (bytes_eq c.args.key) c.args.rows.now c.rows-in-Vacant-2-1.given.0 (Some row) = search rules in
    let none = missing c.args.links.now c.args.rows.now c.args.key gone in
    let is = inserted_step c.args.links.now c.add_record.new.self c.args.rows.now c.rows-in-Vacant-2-1.given.0 c.args.key row c.requires.table.linked u c.in-Ok.ensures.fresh c.in-Ok.ensures.adds c.in-Ok.ensures.empty none (record { txn = c.args.txn; ts = c.args.ts }) refl refl in
    rw c.requires.lets (act_alike (records_of c.args.links.now c.args.rows.now) (records_of c.add_record.new.self c.rows-in-Vacant-2-1.given.0) c.args.key _ (λ r. acquire r c.args.txn c.args.ts) Taken [] is (rw none refl))

pub returns-in-Ok-clause-table : goal.returns-in-Ok-clause-table
returns-in-Ok-clause-table c =
    let row : Row = record { id = c.in-Ok.id; holder = Some (record { txn = c.args.txn; ts = c.args.ts }); distinguished = None } in
    let gone : None ≡ row_at c.args.rows.now c.args.key = search rules in
    let u : UpdatesBy bytes_eq (bytes_eq c.args.key) c.args.rows.now c.rows-in-Vacant-2-1.given.0 (Some row) = search rules in
    let old = records_of c.args.links.now c.args.rows.now in
    let step = rw c.requires.lets at (returns-in-Ok-clause-ok c) in
    record {
      linked = inserted_linked c.args.links.now c.add_record.new.self c.args.rows.now c.rows-in-Vacant-2-1.given.0 c.args.key row c.requires.table.linked u c.in-Ok.ensures.fresh c.in-Ok.ensures.adds c.in-Ok.ensures.empty (sym gone) c.add_record.ensures.sound;
      records_sound = sound_filled old (records_of c.add_record.new.self c.rows-in-Vacant-2-1.given.0) c.args.key (λ r. acquire r c.args.txn c.args.ts) Taken [] (λ q. step_keeps_lawful q 0 (Acquire c.args.txn c.args.ts)) step (acquire_filled (record_at old c.args.key) c.args.txn c.args.ts) c.requires.table.records_sound;
    }

-- memory ran out
pub returns-in_err-found-clause-full : goal.returns-in_err-found-clause-full
returns-in_err-found-clause-full c =
    let gone : None ≡ row_at c.args.rows.now c.args.key = search rules in
    on_err c.from_residual.result _ (inl (subst (λ r. is_empty r ≡ true) (sym (missing c.args.links.now c.args.rows.now c.args.key gone)) refl))

pub returns-in_default-clause-full : goal.returns-in_default-clause-full
returns-in_default-clause-full c =
    let gone : None ≡ row_at c.args.rows.now c.args.key = search rules in
    inl (subst (λ r. is_empty r ≡ true) (sym (missing c.args.links.now c.args.rows.now c.args.key gone)) refl)

pub returns-in-Occupied-clause-full : goal.returns-in-Occupied-clause-full
returns-in-Occupied-clause-full c =
    let some : Some c.into_mut.result.now ≡ row_at c.args.rows.now c.args.key = search rules in
    on_err_weaker c.acquire.result (λ lacks. inr (subst (λ r. vec_capacity c.args.lets.now < length (acquire r c.args.txn c.args.ts).lets) (sym (found c.args.links.now c.args.rows.now c.args.key c.into_mut.result.now some)) lacks)) c.acquire.ensures.full
