use Rattle.std.proofs.Common.{◌≡◌, ◌++◌, map}
use Rattle.lt_walk.proofs.keys.add_all.Given as goal

abbrev pub invariant-loop-key : goal.invariant-loop-key
invariant-loop-key l = l.list.items ≡ l.initial.list.items ++ map (λ k. (k, l.access)) l.yielded
