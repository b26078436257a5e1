use Rattle.std.proofs.Common.{◌≡◌, sym, subst, true}
use Rattle.lt_links.specs.declared.ids.QueueKind.TheVariants.{Readers, Reservation}
use Rattle.lt_links.specs.Maps.{has_record}
use Rattle.lt_row.proofs.Acts.{emptied, emptied_linked, led_linked, none_reserved, handed_on}
use Rattle.lt_row.proofs.row.release_to_next.Goals as goal

pub drop_leading-requires-clause-there : goal.drop_leading-requires-clause-there
drop_leading-requires-clause-there c =
    let id = c.args.row.now.id in
    subst (λ q. has_record c.drop_where-2.new.links q.id ≡ true) (sym c.queue-3.ensures)
    (emptied_linked _ _ id Reservation _ c.queue-2.ensures c.drop_where-2.ensures (emptied_linked _ _ id Readers _ c.queue.ensures c.drop_where.ensures c.requires)).there

pub reserve_first-requires-clause-linked : goal.reserve_first-requires-clause-linked
reserve_first-requires-clause-linked c =
    let id = c.args.row.now.id in
    led_linked c.args.links.now _ c.drop_where-2.new.links c.drop_leading.new.links c.args.row.now (emptied _ _ id Readers _ c.queue.ensures c.drop_where.ensures) (emptied _ _ id Reservation _ c.queue-2.ensures c.drop_where-2.ensures) c.drop_leading.new.links _ c.queue-3.ensures c.drop_leading.ensures
    (emptied_linked _ _ id Reservation _ c.queue-2.ensures c.drop_where-2.ensures (emptied_linked _ _ id Readers _ c.queue.ensures c.drop_where.ensures c.requires))

pub reserve_first-requires-clause-none : goal.reserve_first-requires-clause-none
reserve_first-requires-clause-none c =
    let id = c.args.row.now.id in
    none_reserved c.args.links.now _ c.drop_where-2.new.links c.drop_leading.new.links c.args.row.now (emptied _ _ id Readers _ c.queue.ensures c.drop_where.ensures) (emptied _ _ id Reservation _ c.queue-2.ensures c.drop_where-2.ensures) c.drop_leading.new.links _ c.queue-3.ensures c.drop_leading.ensures

pub returns : goal.returns
returns c =
    let id = c.args.row.now.id in
    handed_on c.args.links.now _ c.drop_where-2.new.links c.reserve_first.new.links c.args.row.now (emptied _ _ id Readers _ c.queue.ensures c.drop_where.ensures) (emptied _ _ id Reservation _ c.queue-2.ensures c.drop_where-2.ensures) c.drop_leading.new.links _ c.queue-3.ensures c.drop_leading.ensures c.reserve_first.ensures
