use Rattle.std.proofs.Common.{◌≡◌, ◌≤◌, [], length, option_copied}
use Rattle.std.specs.HashMap.{keys}
use Rattle.lt_rules.specs.Table.{comes_after}
use Rattle.lt_lock.proofs.LeastKeys.{least_of}
use Rattle.lt_lock.proofs.keys.least_keys.Given as goal

-- the least keys so far, with the remaining keys put among them, are the least of all keys
abbrev pub invariant-loop-key : goal.invariant-loop-key
invariant-loop-key l =
    (least_of (comes_after (option_copied l.after)) l.at_most l.least.keys l.key-iterator ≡ least_of (comes_after (option_copied l.after)) l.at_most [] (keys l.rows))
    × (length l.least.keys ≤ l.at_most)
