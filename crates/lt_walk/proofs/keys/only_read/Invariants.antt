use Rattle.std.proofs.Common.{take}
use Rattle.lt_walk.proofs.KeyLists.{Holds, IsRead}
use Rattle.lt_walk.proofs.keys.only_read.Given as goal

abbrev pub invariant-loop-key : goal.invariant-loop-key
invariant-loop-key l = Holds l.keys.items (IsRead l.accesses (take l.key-index l.accesses))
