use Rattle.std.proofs.Common.{length}
use Rattle.lt_links.specs.Maps.{queue}
use Rattle.lt_row.proofs.Fronts.{IsLeading}
use Rattle.lt_row.proofs.queue_walk.drop_leading.Given as goal

abbrev pub invariant-loop-at : goal.invariant-loop-at
invariant-loop-at l = IsLeading l.initial.links l.links l.queue l.at

abbrev pub decreases-loop-at : goal.decreases-loop-at
decreases-loop-at l = length (queue l.links l.queue)
