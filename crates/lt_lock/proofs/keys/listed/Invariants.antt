use Rattle.std.proofs.Common.{◌≡◌, ◌++◌}
use Rattle.lt_lock.proofs.keys.listed.Given as goal

-- the keys listed so far, followed by the remaining ones, are all of them
abbrev pub invariant-loop-key : goal.invariant-loop-key
invariant-loop-key l = l.all.items ++ l.key-iterator ≡ l.fn.keys.keys
