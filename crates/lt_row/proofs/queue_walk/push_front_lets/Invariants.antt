use Rattle.std.proofs.Common.{◌++◌, ◌≤◌, length, vec_capacity}
use Rattle.lt_links.specs.Maps.{queue}
use Rattle.lt_row.specs.Row.{line}
use Rattle.lt_row.specs.Found.{waiting_lets, leading_writers}
use Rattle.lt_row.proofs.Places.{rest_from}
use Rattle.lt_row.proofs.Walks.{IsWalk}
use Rattle.lt_row.proofs.Fronts.{front_and}
use Rattle.lt_row.proofs.queue_walk.push_front_lets.Given as goal

abbrev pub invariant-loop-at : goal.invariant-loop-at
invariant-loop-at l = record {
  walk : IsWalk (queue l.links l.queue) l.at (front_and l.links l.lets.items) (l.initial.lets.items ++ waiting_lets (leading_writers (line l.links l.queue)));
  room : vec_capacity l.initial.lets ≤ vec_capacity l.lets;
}

abbrev pub decreases-loop-at : goal.decreases-loop-at
decreases-loop-at l = length (rest_from l.at (queue l.links l.queue))
