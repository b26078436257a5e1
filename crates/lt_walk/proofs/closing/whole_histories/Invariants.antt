use Rattle.std.proofs.Common.{◌≡◌, map, vec_capacity}
use Rattle.lt_walk.proofs.closing.whole_histories.Given as goal

abbrev pub invariant-loop-rest : goal.invariant-loop-rest
invariant-loop-rest l = (l.histories.items ≡ map (λ t. t.entries) l.yielded) × (vec_capacity l.histories ≡ vec_capacity l.initial.histories)
