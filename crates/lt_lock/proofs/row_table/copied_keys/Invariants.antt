use Rattle.std.proofs.Common.{◌≡◌, ◌++◌}
use Rattle.std.specs.HashMap.{keys}
use Rattle.lt_lock.proofs.row_table.copied_keys.Given as goal

-- the copies made so far, followed by the remaining keys, are all keys
abbrev pub invariant-loop-key : goal.invariant-loop-key
invariant-loop-key l = l.all.items ++ l.key-iterator ≡ keys l.rows
