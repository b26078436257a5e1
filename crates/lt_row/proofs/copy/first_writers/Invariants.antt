use Rattle.std.proofs.Common.{◌≤◌, length}
use Rattle.std.specs.Prelude.{map, vec_len}
use Rattle.lt_links.specs.Maps.{queue}
use Rattle.lt_row.specs.Row.{line, writer_of}
use Rattle.lt_row.proofs.Places.{rest_from}
use Rattle.lt_row.proofs.Walks.{IsWalk}
use Rattle.lt_row.proofs.Copies.{copies_and}
use Rattle.lt_row.proofs.copy.first_writers.Given as goal

abbrev pub invariant-loop-at : goal.invariant-loop-at
invariant-loop-at l =
    IsWalk (queue l.links l.queue) l.at (copies_and writer_of l.links l.all.items) (map writer_of (line l.links l.queue))
    × (vec_len l.all ≤ l.most)

abbrev pub decreases-loop-at : goal.decreases-loop-at
decreases-loop-at l = length (rest_from l.at (queue l.links l.queue))
