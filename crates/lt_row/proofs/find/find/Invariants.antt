use Rattle.std.proofs.Common.{length}
use Rattle.lt_links.specs.Maps.{owned}
use Rattle.lt_row.proofs.Places.{rest_from}
use Rattle.lt_row.proofs.Searches.{IsSearch}
use Rattle.lt_row.proofs.find.find.Given as goal

abbrev pub invariant-loop-at : goal.invariant-loop-at
invariant-loop-at l = IsSearch l.links l.id l.number l.at

abbrev pub decreases-loop-at : goal.decreases-loop-at
decreases-loop-at l = length (rest_from l.at (owned l.links l.number))
