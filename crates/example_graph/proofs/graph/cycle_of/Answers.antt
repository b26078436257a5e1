use Rattle.std.proofs.Common.{◌∙◌, sym}
use Rattle.example_graph.specs.Graph.{IsCycle}
use Rattle.example_graph.proofs.Cycles.{HasNoCycle-from_none, IsCycle-among, none_from_first}
use Rattle.example_graph.proofs.graph.cycle_of.Goals as goal

pub returns-in-None-clause-none : goal.returns-in-None-clause-none
returns-in-None-clause-none c =
    λ _. HasNoCycle-from_none _ _ c.in_ok-left.ensures.kept (sym c.deref.ensures.value ∙ none_from_first c.deref.result.now c.in-None.ensures.value)

pub returns-clause-cycle : goal.returns-clause-cycle
returns-clause-cycle c =
    let cycle : IsCycle c.in_ok-left.left.items c.in_ok-walk-in-Some.field-0.items = rw c.deref-in-Some.ensures.value at c.in_ok-walk-in-Some.ensures in
    IsCycle-among _ _ _ c.in_ok-left.ensures.kept cycle
