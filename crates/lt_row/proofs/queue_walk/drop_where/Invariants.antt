use Rattle.std.proofs.Common.{length}
use Rattle.lt_links.specs.Maps.{queue}
use Rattle.lt_row.proofs.Places.{rest_from}
use Rattle.lt_row.proofs.Walks.{IsDropping}
use Rattle.lt_row.proofs.queue_walk.drop_where.Given as goal

abbrev pub invariant-loop-at : goal.invariant-loop-at
invariant-loop-at l = IsDropping l.who l.initial.links l.links l.queue l.at

abbrev pub decreases-loop-at : goal.decreases-loop-at
decreases-loop-at l = length (rest_from l.at (queue l.links l.queue))
