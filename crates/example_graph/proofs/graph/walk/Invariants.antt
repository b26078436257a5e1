use Rattle.std.proofs.Common.{length}
use Rattle.example_graph.proofs.Walks.{IsOnWay, unvisited}
use Rattle.example_graph.proofs.graph.walk.Given as goal

abbrev pub invariant-loop-next : goal.invariant-loop-next
invariant-loop-next l = IsOnWay l.edges l.path.items l.txn

-- Each round visits one more transaction.
abbrev pub decreases-loop-next : goal.decreases-loop-next
decreases-loop-next l = length (unvisited l.path.items l.edges)
