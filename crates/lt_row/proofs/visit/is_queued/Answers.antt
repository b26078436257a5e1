use Rattle.std.proofs.Common.{sym}
use Rattle.lt_row.proofs.Waits.{missing_writers, unqueued, found_queued}
use Rattle.lt_row.proofs.visit.is_queued.Goals as goal

pub returns-in_default : goal.returns-in_default
returns-in_default c = sym (missing_writers c.args.links.now c.args.row.now c.args.number (rw c.in_default.is at c.requires.found))

pub returns-in-Writers : goal.returns-in-Writers
returns-in-Writers c =
    sym (found_queued c.args.links.now c.args.row.now c.args.number c.requires.row.linked c.requires.row.lawful.first.numbers_differ _ _ (rw c.in-Some.is at c.requires.found) c.in-Writers.is)

pub returns-in-Readers : goal.returns-in-Readers
returns-in-Readers c =
    sym (unqueued c.args.links.now c.args.row.now c.args.number c.requires.row.linked c.requires.row.lawful.first.numbers_differ _ _ (rw c.in-Some.is at c.requires.found) (λ e. cc))

pub returns-in-Reservation : goal.returns-in-Reservation
returns-in-Reservation c =
    sym (unqueued c.args.links.now c.args.row.now c.args.number c.requires.row.linked c.requires.row.lawful.first.numbers_differ _ _ (rw c.in-Some.is at c.requires.found) (λ e. cc))
