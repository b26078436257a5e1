use Rattle.std.proofs.Common.{◌≡◌, ◌++◌, ◌+◌, ◌≤◌, map, length, vec_capacity}
use Rattle.std.specs.Vec.Iter.{into_iter_items, into_iter_len}
use Rattle.lt_walk.proofs.closing.all_passes.Given as goal

abbrev pub invariant-loop-guard : goal.invariant-loop-guard
invariant-loop-guard l =
    (l.passes.items ++ map (λ g. g.pass) (into_iter_items l.rest) ≡ l.initial.passes.items ++ map (λ g. g.pass) (into_iter_items l.initial.rest))
    × (length l.passes.items + into_iter_len l.rest ≤ vec_capacity l.passes)

abbrev pub decreases-loop-guard : goal.decreases-loop-guard
decreases-loop-guard l = into_iter_len l.rest
