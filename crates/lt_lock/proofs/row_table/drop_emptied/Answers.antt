use Rattle.std.proofs.Common.{sym, subst}
use Rattle.lt_links.specs.Maps.{DropsRecord}
use Rattle.lt_lock.proofs.Tables.{dropped_linked, dropped_records}
use Rattle.lt_lock.proofs.row_table.drop_emptied.Goals as goal

pub returns-in-Some-clause-linked : goal.returns-in-Some-clause-linked
returns-in-Some-clause-linked c =
    let e = rw c.in-Some.is at c.requires.emptied in
    dropped_linked c.args.links.now c.drop_record.new.self c.args.rows.now c.remove.new.self c.args.key.now e.0 c.requires.linked e.1 c.remove.ensures.updates (subst (DropsRecord c.args.links.now c.drop_record.new.self) (sym e.2) c.drop_record.ensures.drops) c.drop_record.ensures.sound

pub returns-in-Some-clause-records : goal.returns-in-Some-clause-records
returns-in-Some-clause-records c =
    let e = rw c.in-Some.is at c.requires.emptied in
    dropped_records c.args.links.now c.drop_record.new.self c.args.rows.now c.remove.new.self c.args.key.now e.0 c.requires.linked e.1 c.remove.ensures.updates (subst (DropsRecord c.args.links.now c.drop_record.new.self) (sym e.2) c.drop_record.ensures.drops) e.3
