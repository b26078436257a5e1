use Rattle.std.proofs.Common.{take}
use Rattle.lt_walk.proofs.KeyLists.{Holds, IsWritten}
use Rattle.lt_walk.proofs.keys.written.Given as goal

abbrev pub invariant-loop-key : goal.invariant-loop-key
invariant-loop-key l = Holds l.keys.items (IsWritten (take l.key-index l.accesses))
