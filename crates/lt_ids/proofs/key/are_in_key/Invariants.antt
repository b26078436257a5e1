use Rattle.std.proofs.Common.{◌≡◌, ◌*◌, All, IsTrue, take}
use Rattle.lt_ids.specs.Key.{is_key_byte}
use Rattle.lt_ids.proofs.key.are_in_key.Given as goal

abbrev pub invariant-loop-i : goal.invariant-loop-i
invariant-loop-i l = record {
  counted : l.tested ≡ 8 * l.i;
  each : All (λ b. IsTrue (is_key_byte b)) (take l.tested l.bytes);
}

abbrev pub invariant-loop-j : goal.invariant-loop-j
invariant-loop-j l = All (λ b. IsTrue (is_key_byte b)) (take l.j l.bytes)
