use Rattle.std.proofs.Common.{rules, ◌≡◌, ◌≢◌, subst, sym, refl, vec_capacity}
use Rattle.std.specs.List.{AllByRecursion}
use Rattle.lt_links.specs.declared.ids.QueueKind.TheVariants.{Writers, Readers}
use Rattle.lt_row.specs.Row.{line, record_of}
use Rattle.lt_row.specs.Found.{PutsWriter}
use Rattle.lt_row.proofs.Grows.{stopped_grows}
use Rattle.lt_row.proofs.Waits.{missing_readers, waits, put_went, again_went, none_in, cut_after, moved_went}
use Rattle.lt_row.proofs.Leaves.{other_readers}
use Rattle.lt_row.proofs.visit.join_writers.Goals as goal

pub returns-then-is_too_long-clause-ok : goal.returns-then-is_too_long-clause-ok
returns-then-is_too_long-clause-ok c = search rules

pub returns-then-is_too_long-clause-room : goal.returns-then-is_too_long-clause-room
returns-then-is_too_long-clause-room c =
    stopped_grows (record_of c.args.links.now c.args.row.now) (record_of c.stop_reading.new.links c.args.row.now) c.args.stand.now.number (vec_capacity c.args.lets.now) c.stop_reading.ensures.is

-- the writers are not too many
pub returns-in_default-clause-ok : goal.returns-in_default-clause-ok
returns-in_default-clause-ok c =
    let m = c.args.links.now in
    waits m c.put_writer.new.links c.args.row.now c.args.stand.now c.args.longest (search rules) (put_went m c.put_writer.new.links c.args.row.now c.args.stand.now c.requires.row.linked c.requires.named
    (subst (λ q. PutsWriter m c.put_writer.new.links q c.args.stand.now) c.queue-writers.ensures c.in_ok-put_writer.ensures.ok)
    (missing_readers m c.args.row.now c.args.stand.now.number (rw c.in_default.is at c.requires.found)))

pub returns-then-eq-clause-ok : goal.returns-then-eq-clause-ok
returns-then-eq-clause-ok c =
    let m = c.args.links.now in
    let f = rw c.in-Some.is at c.requires.found in
    waits m c.renew_stand.new.links c.args.row.now c.args.stand.now c.args.longest (search rules) (again_went m c.args.row.now c.args.stand.now.number c.requires.row.linked c.requires.row.lawful.first.numbers_differ _ _ f c.renew_stand.new.links c.args.stand.now refl c.requires.active c.requires.named (search rules) c.requires.row.lawful.first.writers_rise (c.in_ok-renew_stand.ensures.writes _ f.before f.after f.cut))

pub put_writer-requires-2-clause-missing : goal.put_writer-requires-2-clause-missing
put_writer-requires-2-clause-missing c =
    let m = c.args.links.now in
    let f = rw c.in-Some.is at c.requires.found in
    let other : Writers ≢ c.in-Some.found.kind = search rules in
    subst (λ q. AllByRecursion (λ s. s.number ≢ c.args.stand.now.number) (line m q)) (sym c.queue-writers.ensures)
    (none_in m c.args.row.now c.args.stand.now.number c.requires.row.linked c.requires.row.lawful.first.numbers_differ _ _ f Writers other)

pub returns-then-eq-2-clause-ok : goal.returns-then-eq-2-clause-ok
returns-then-eq-2-clause-ok c =
    let m = c.args.links.now in
    let f = rw c.in-Some.is at c.requires.found in
    let puts = subst (λ q. PutsWriter m c.put_writer-2.new.links q c.args.stand.now) c.queue-writers.ensures c.in_ok-put_writer-2.ensures.ok in
    let reads : c.in-Some.found.kind ≡ Readers = search rules in
    waits m c.take_out.new.links c.args.row.now c.args.stand.now c.args.longest (search rules) (moved_went m c.args.row.now c.args.stand.now.number c.requires.row.linked c.requires.row.lawful.first.numbers_differ _ _ f c.put_writer-2.new.links c.take_out.new.links c.args.stand.now refl c.requires.named reads puts
    (c.take_out.ensures _ f.before f.after (cut_after m c.args.row.now c.args.stand.now.number c.requires.row.linked c.requires.row.lawful.first.numbers_differ _ _ f c.put_writer-2.new.links c.take_out.new.links c.args.stand.now refl c.requires.named reads puts)))

pub returns-clause-ok : goal.returns-clause-ok
returns-clause-ok c =
    let m = c.args.links.now in
    let f = rw c.in-Some.is at c.requires.found in
    waits m c.put_writer-2.new.links c.args.row.now c.args.stand.now c.args.longest (search rules) (put_went m c.put_writer-2.new.links c.args.row.now c.args.stand.now c.requires.row.linked c.requires.named
    (subst (λ q. PutsWriter m c.put_writer-2.new.links q c.args.stand.now) c.queue-writers.ensures c.in_ok-put_writer-2.ensures.ok)
    (other_readers m c.args.row.now c.args.stand.now.number c.requires.row.linked c.requires.row.lawful.first.numbers_differ _ _ f (search rules)))
