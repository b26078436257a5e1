use Rattle.std.proofs.Common.{◌≡◌, refl}
use Rattle.lt_lock.proofs.Tables.{inserted_step, inserted_linked, refused_records, refused_linked, no_row_at}
use Rattle.lt_lock.proofs.row_table.insert_held.Goals as goal

pub returns-in-Err-clause-linked : goal.returns-in-Err-clause-linked
returns-in-Err-clause-linked c = refused_linked c.args.links.now c.add_record.new.self c.drop_record.new.self c.args.rows.now c.insert.new.self c.in_ok-queues.queues c.requires.table.linked c.in-Err.ensures.err c.in_ok-queues.ensures.fresh c.in_ok-queues.ensures.adds c.drop_record.ensures.drops c.drop_record.ensures.sound

pub returns-in-Err-clause-err : goal.returns-in-Err-clause-err
returns-in-Err-clause-err c = refused_records c.args.links.now c.add_record.new.self c.drop_record.new.self c.args.rows.now c.insert.new.self c.in_ok-queues.queues c.requires.table.linked c.in-Err.ensures.err c.in_ok-queues.ensures.fresh c.in_ok-queues.ensures.adds c.drop_record.ensures.drops

pub returns-clause-ok : goal.returns-clause-ok
returns-clause-ok c =
    let same : c.in_ok-copy.copy ≡ c.args.key.now = c.in_ok-copy.ensures.same in
    let u = rw same at c.in_default.ensures.updates in
    inserted_step c.args.links.now c.add_record.new.self c.args.rows.now c.insert.new.self c.args.key.now _ c.requires.table.linked u c.in_ok-queues.ensures.fresh c.in_ok-queues.ensures.adds c.in_ok-queues.ensures.empty c.requires.none c.args.holder.now refl refl

pub returns-clause-linked : goal.returns-clause-linked
returns-clause-linked c =
    let same : c.in_ok-copy.copy ≡ c.args.key.now = c.in_ok-copy.ensures.same in
    let u = rw same at c.in_default.ensures.updates in
    inserted_linked c.args.links.now c.add_record.new.self c.args.rows.now c.insert.new.self c.args.key.now _ c.requires.table.linked u c.in_ok-queues.ensures.fresh c.in_ok-queues.ensures.adds c.in_ok-queues.ensures.empty (no_row_at c.args.links.now c.args.rows.now c.args.key.now c.requires.table c.requires.none) c.add_record.ensures.sound
