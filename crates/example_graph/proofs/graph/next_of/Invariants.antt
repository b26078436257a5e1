use Rattle.std.proofs.Common.{◌≡◌, false, take}
use Rattle.example_graph.specs.Graph.{waits}
use Rattle.example_graph.proofs.graph.next_of.Given as goal

abbrev pub invariant-loop-edge : goal.invariant-loop-edge
invariant-loop-edge l = waits (take l.edge-index l.edges) l.txn ≡ false
