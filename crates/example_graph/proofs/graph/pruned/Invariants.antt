use Rattle.std.proofs.Common.{◌≡◌, take}
use Rattle.std.specs.List.{filter}
use Rattle.example_graph.specs.Graph.{waits}
use Rattle.example_graph.proofs.graph.pruned.Given as goal

abbrev pub invariant-loop-edge : goal.invariant-loop-edge
invariant-loop-edge l = l.left.items ≡ filter (λ e. waits l.edges e.holder) (take l.edge-index l.edges)
