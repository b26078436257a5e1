use Rattle.lt_trace_show.specs.Change.{NamesReservation}
use Rattle.lt_trace_show.proofs.Numbers.{reservation_kept, writers_kept, reservation_named}
use Rattle.lt_trace_show.proofs.change.changed_numbers.Goals as goal

pub returns : goal.returns
returns c =
    let before = c.args.before.now in
    let after = c.args.after.now in
    let w = c.in_ok-push_writers_between.ensures in
    let r = c.in_ok-push_readers_between.ensures in
    let reserved : NamesReservation before.reservation after.reservation c.push_reserved-2.new.numbers.items = rw (c.in_ok-push_reserved-2.ensures, c.in_ok-push_reserved.ensures) (reservation_named before.reservation after.reservation c.new-numbers.result.items) in
    record {
      reservation = reservation_kept before.reservation after.reservation _ _ r.kept (reservation_kept before.reservation after.reservation _ _ w.kept reserved);
      writers = writers_kept before.writers after.writers _ _ r.kept w.named;
      readers = r.named;
    }
