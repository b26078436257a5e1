use Rattle.std.proofs.Common.{rules, ◌≡◌, ◌≢◌, ◌∷◌, ◌∙◌, subst, sym, refl, true}
use Rattle.lt_links.specs.declared.ids.QueueKind.TheVariants.{Readers, Reservation}
use Rattle.lt_links.specs.Maps.{has_record}
use Rattle.lt_row.specs.Row.{line}
use Rattle.lt_row.specs.Found.{WritesQueue}
use Rattle.lt_row.proofs.Waits.{missing_readers, missing_writers, first_went, unqueued, again_reads, reread_went}
use Rattle.lt_row.proofs.Leaves.{other_readers, writers_else}
use Rattle.lt_row.proofs.visit.wait_to_read.Goals as goal

pub returns-in_default-clause-ok : goal.returns-in_default-clause-ok
returns-in_default-clause-ok c =
    let m = c.args.links.now in
    let none = rw c.in_default.is at c.requires.found in
    first_went m c.insert_first.new.links c.args.row.now c.args.stand.now c.requires.row.linked c.requires.named
    (subst (λ q. WritesQueue m c.insert_first.new.links q (c.args.stand.now ∷ line m q)) c.queue-readers.ensures c.in_ok-insert_first.ensures.ok)
    (missing_readers m c.args.row.now c.args.stand.now.number none) (missing_writers m c.args.row.now c.args.stand.now.number none)

pub returns-then-eq-clause-ok : goal.returns-then-eq-clause-ok
returns-then-eq-clause-ok c =
    let m = c.args.links.now in
    let f = rw c.in-Some.is at c.requires.found in
    first_went m c.insert_first-then-eq.new.links c.args.row.now c.args.stand.now c.requires.row.linked c.requires.named
    (subst (λ q. WritesQueue m c.insert_first-then-eq.new.links q (c.args.stand.now ∷ line m q)) c.queue-readers.ensures c.in_ok-insert_first-2.ensures.ok)
    (other_readers m c.args.row.now c.args.stand.now.number c.requires.row.linked c.requires.row.lawful.first.numbers_differ _ _ f (search rules))
    (unqueued m c.args.row.now c.args.stand.now.number c.requires.row.linked c.requires.row.lawful.first.numbers_differ _ _ f (search rules))

pub move_to_front-requires-clause-there : goal.move_to_front-requires-clause-there
move_to_front-requires-clause-there c =
    let f = rw c.in-Some.is at c.requires.found in
    let w = c.in_ok-renew_stand.ensures.writes _ f.before f.after f.cut in
    w.records c.queue-readers.result.id ∙ subst (λ q. has_record c.args.links.now q.id ≡ true) (sym c.queue-readers.ensures) c.requires.row.linked.there

pub returns-then-eq-2-clause-ok : goal.returns-then-eq-2-clause-ok
returns-then-eq-2-clause-ok c =
    let m = c.args.links.now in
    let f = rw c.in-Some.is at c.requires.found in
    reread_went m c.args.row.now c.args.stand.now.number c.requires.row.linked c.requires.row.lawful.first.numbers_differ _ _ f c.move_to_front.new.links c.args.stand.now refl c.requires.active c.requires.named c.renew_stand.new.links (search rules)
    (c.in_ok-renew_stand.ensures.writes _ f.before f.after f.cut) _ c.queue-readers.ensures c.in_ok-renew_stand.ensures.queues (c.move_to_front.ensures _ f.before f.after (c.in_ok-renew_stand.ensures.queues _ ∙ f.cut))

pub returns-clause-ok : goal.returns-clause-ok
returns-clause-ok c =
    let m = c.args.links.now in
    let f = rw c.in-Some.is at c.requires.found in
    let unreserved : c.in-Some.found.kind ≢ Reservation = search rules in
    let reads_not : c.in-Some.found.kind ≢ Readers = search rules in
    again_reads m c.args.row.now c.args.stand.now.number c.requires.row.linked c.requires.row.lawful.first.numbers_differ _ _ f c.renew_stand.new.links c.args.stand.now refl c.requires.active c.requires.named (writers_else _ unreserved reads_not) c.requires.row.lawful.first.writers_rise (c.in_ok-renew_stand.ensures.writes _ f.before f.after f.cut)
