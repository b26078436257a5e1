use Rattle.std.proofs.Common.{[], ◌++◌, Some, refl, sym, subst}
use Rattle.lt_rules.specs.declared.call.Reply.TheVariants.{Passed}
use Rattle.lt_rules.specs.Rules.{set_back, stop_reading}
use Rattle.lt_rules.specs.Visit.{pass}
use Rattle.lt_links.specs.Maps.{Maps}
use Rattle.lt_row.specs.Row.{record_of, request_of}
use Rattle.lt_row.specs.RowStepped.{RowStepped}
use Rattle.lt_row.proofs.Visits.{has_last, displaced}
use Rattle.lt_row.proofs.visit.take_reservation.Goals.{in-Some, in_default}
use Rattle.lt_row.proofs.visit.take_reservation.Goals as goal

pub returns-clause-ok : goal.returns-clause-ok
returns-clause-ok c =
    let old = c.args.links.now in
    let mid = c.insert_first.new.links in
    let r = c.args.row.now in
    let s = c.args.stand.now in
    let t = c.args.reservation.now in
    let q = c.queue-reserved.result in
    let put = c.in_ok-insert_first.ensures.ok in
    elim c.match-last.branch [
      | in-Some w ↦
          subst (λ (new : Maps). RowStepped old new r r.id (pass (record (stop_reading (record_of old r) s.number) { reservation = Some (request_of s); writers = set_back (Some (request_of t)) ++ (record_of old r).writers })) Passed []) (sym w.links-is)
          (displaced old mid r s t c.requires.row c.requires.reserved q c.queue-reserved.ensures put w.in-Some.node w.in-Some.ensures.last
          w.replace_stand.new.links w.move_to_front.new.links _ w.stand-back.result _ c.requires.unheld c.requires.named w.queue.ensures w.stand-back.ensures.stand refl
          w.replace_stand.ensures.queues (w.replace_stand.ensures.writes q) (w.move_to_front.ensures q))
      | in_default w ↦ absurd (has_last old mid r s t c.requires.row c.requires.reserved q c.queue-reserved.ensures put w.in_default.ensures.last)
    ]
