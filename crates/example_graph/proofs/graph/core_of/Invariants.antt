use Rattle.std.proofs.Common.{length}
use Rattle.example_graph.specs.Graph.{KeepsCycles}
use Rattle.example_graph.proofs.graph.core_of.Given as goal

abbrev pub invariant-loop-left : goal.invariant-loop-left
invariant-loop-left l = KeepsCycles l.fn.edges.items l.left.items

-- Each round removes an edge.
abbrev pub decreases-loop-left : goal.decreases-loop-left
decreases-loop-left l = length l.left.items
