use Rattle.std.proofs.Common.{◌≡◌, drop}
use Rattle.std.proofs.lemmas.Result.{IfOk-weaker}
use Rattle.example_graph.specs.Graph.{IsCycle, IsOnPathAt}
use Rattle.example_graph.proofs.Walks.{IsOnWay-pushed, unvisited-pushed, IsCycle-pushed}
use Rattle.example_graph.proofs.graph.walk.Goals as goal

pub loop-next-smaller : goal.loop-next-smaller
loop-next-smaller c =
    unvisited-pushed c.args.edges.now c.loop-next.path.items c.push.new.self.items c.loop-next.txn c.in-Some.next c.loop-next.invariant c.in-Some.ensures.next c.in_ok-push.ensures.items

pub loop-next-preserved : goal.loop-next-preserved
loop-next-preserved c =
    IsOnWay-pushed c.args.edges.now c.loop-next.path.items c.push.new.self.items c.loop-next.txn c.in-Some.next c.requires.core c.loop-next.invariant c.in-Some.ensures.next c.in_ok-push.ensures.items (rw c.deref.ensures.value at c.in_default-index_on_path.ensures.none)

pub returns-in-Some-index_on_path : goal.returns-in-Some-index_on_path
returns-in-Some-index_on_path c =
    let on_path : IsOnPathAt c.push.new.self.items c.in-Some.next c.in-Some-index_on_path.index = rw c.deref.ensures.value at c.in-Some-index_on_path.ensures.found in
    let cycle : IsCycle c.args.edges.now (drop c.in-Some-index_on_path.index c.push.new.self.items) =
    IsCycle-pushed c.args.edges.now c.loop-next.path.items c.push.new.self.items c.loop-next.txn c.in-Some.next c.in-Some-index_on_path.index c.loop-next.invariant c.in-Some.ensures.next c.in_ok-push.ensures.items on_path in
    IfOk-weaker c.split_off.result (λ w. w.items ≡ drop c.in-Some-index_on_path.index c.push.new.self.items) (λ w. IsCycle c.args.edges.now w.items) (λ w is. rw is cycle) c.split_off.ensures.tail
