use Rattle.std.proofs.Common.{◌≡◌, ◌==◌, take}
use Rattle.std.specs.Cmp.Lexicographic.{pointwise}
use Rattle.lt_ids.proofs.key.are_same_22.Given as goal

abbrev pub invariant-loop-i : goal.invariant-loop-i
invariant-loop-i l = l.same ≡ pointwise ◌==◌ (take l.i l.one) (take l.i l.other)
