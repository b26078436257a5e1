use Rattle.std.proofs.Common.{◌≡◌, ◌*◌, length, take, drop, All, IsTrue}
use Rattle.std.specs.List.{AllByRecursion}
use Rattle.lt_ids.specs.Key.{is_key_byte}
use Rattle.lt_ids.proofs.key.copy_short.Given as goal

abbrev pub invariant-loop-i : goal.invariant-loop-i
invariant-loop-i l = record {
  counted : l.done ≡ 8 * l._i;
  many : length l.cells ≡ 22;
  each : All (λ b. IsTrue (is_key_byte b)) (take l.done l.bytes);
  copied : take l.done l.cells ≡ take l.done l.bytes;
  padded : AllByRecursion (λ b. b ≡ 0) (drop l.done l.cells);
}

abbrev pub invariant-loop-j : goal.invariant-loop-j
invariant-loop-j l = record {
  many : length l.cells ≡ 22;
  each : All (λ b. IsTrue (is_key_byte b)) (take l.j l.bytes);
  copied : take l.j l.cells ≡ take l.j l.bytes;
  padded : AllByRecursion (λ b. b ≡ 0) (drop l.j l.cells);
}
