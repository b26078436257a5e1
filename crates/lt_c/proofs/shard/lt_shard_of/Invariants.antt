use Rattle.std.proofs.Common.{◌≡◌, ◌*◌, ◌≤◌, sum, take}
use Rattle.lt_c.proofs.shard.lt_shard_of.Given as goal

abbrev pub invariant-loop-byte : goal.invariant-loop-byte
invariant-loop-byte l = record {
  total : l.total ≡ sum (take l.byte-index l.key);
  small : l.total ≤ 255 * l.byte-index;
}
