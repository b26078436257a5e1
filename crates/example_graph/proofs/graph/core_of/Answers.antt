use Rattle.std.proofs.Common.{◌≡◌, ◌∙◌, ap, arith, length}
use Rattle.example_graph.specs.Graph.{pruned}
use Rattle.example_graph.proofs.Cycles.{KeepsCycles-fewer, AllLeadOn-fewer, length-fewer}
use Rattle.example_graph.proofs.graph.core_of.Goals as goal

pub returns-then-len-clause-kept : goal.returns-then-len-clause-kept
returns-then-len-clause-kept c =
    let fewer_is : c.in_ok-fewer.fewer.items ≡ pruned c.loop-left.left.items = c.in_ok-fewer.ensures ∙ ap pruned c.deref.ensures.value in
    KeepsCycles-fewer _ _ _ c.loop-left.invariant fewer_is

pub returns-then-len-clause-core : goal.returns-then-len-clause-core
returns-then-len-clause-core c =
    let fewer_is : c.in_ok-fewer.fewer.items ≡ pruned c.loop-left.left.items = c.in_ok-fewer.ensures ∙ ap pruned c.deref.ensures.value in
    let same : length c.in_ok-fewer.fewer.items ≡ length c.loop-left.left.items = omega arith in
    AllLeadOn-fewer _ _ fewer_is same

pub loop-left-smaller : goal.loop-left-smaller
loop-left-smaller c =
    let fewer_is : c.in_ok-fewer.fewer.items ≡ pruned c.loop-left.left.items = c.in_ok-fewer.ensures ∙ ap pruned c.deref.ensures.value in
    length-fewer _ _ fewer_is (λ same. omega arith)

pub loop-left-preserved : goal.loop-left-preserved
loop-left-preserved c =
    let fewer_is : c.in_ok-fewer.fewer.items ≡ pruned c.loop-left.left.items = c.in_ok-fewer.ensures ∙ ap pruned c.deref.ensures.value in
    KeepsCycles-fewer _ _ _ c.loop-left.invariant fewer_is
