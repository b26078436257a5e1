use Rattle.std.proofs.Common.{◌≡◌, true, All, IsTrue, take}
use Rattle.lt_ids.specs.Key.{is_key_byte}
use Rattle.lt_ids.proofs.key.are_eight_in_key.Given as goal

abbrev pub invariant-loop-i : goal.invariant-loop-i
invariant-loop-i l = l.all ≡ true → All (λ b. IsTrue (is_key_byte b)) (take l.i l.bytes)
