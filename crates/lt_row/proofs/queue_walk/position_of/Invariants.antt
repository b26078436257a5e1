use Rattle.std.proofs.Common.{◌-◌, length}
use Rattle.lt_links.specs.Maps.{queue}
use Rattle.lt_row.proofs.Places.{behind}
use Rattle.lt_row.proofs.Walks.{IsPlacing}
use Rattle.lt_row.proofs.queue_walk.position_of.Given as goal

abbrev pub invariant-loop-at : goal.invariant-loop-at
invariant-loop-at l = IsPlacing l.links l.queue l.number l.at

abbrev pub decreases-loop-at : goal.decreases-loop-at
decreases-loop-at l = length (queue l.links l.queue) - length (behind l.at (queue l.links l.queue))
