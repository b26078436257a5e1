use Rattle.std.proofs.Common.{◌≡◌, false, take}
use Rattle.example_graph.specs.Graph.{is_among}
use Rattle.example_graph.proofs.graph.index_on_path.Given as goal

abbrev pub invariant-loop-index : goal.invariant-loop-index
invariant-loop-index l = is_among (take l.index l.path) l.txn ≡ false
