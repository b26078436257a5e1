use Rattle.lt_links.specs.declared.ids.QueueKind.TheVariants.{Reservation}
use Rattle.lt_row.specs.Row.{line, queue_at, IsNamed}
use Rattle.lt_row.proofs.Copies.{first_of}
use Rattle.lt_row.proofs.copy.reservation.Goals as goal

pub request_of-requires : goal.request_of-requires
request_of-requires c = first_of IsNamed (line c.args.links.now (queue_at c.args.row.now.id Reservation)) c.in-Some.stand (c.requires.named Reservation) c.in-Some.ensures.stand
