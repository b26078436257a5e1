use Rattle.std.proofs.Common.{length}
use Rattle.lt_links.specs.Maps.{owned}
use Rattle.lt_row.proofs.Places.{rest_from}
use Rattle.lt_row.proofs.SameTxn.{IsCount}
use Rattle.lt_row.proofs.same_txn.has_only.Given as goal

abbrev pub invariant-loop-at : goal.invariant-loop-at
invariant-loop-at l = IsCount l.links l.txn l.number l.count l.left l.at

abbrev pub decreases-loop-at : goal.decreases-loop-at
decreases-loop-at l = length (rest_from l.at (owned l.links l.number))
