use Rattle.std.proofs.Common.{◌≡◌, ◌++◌, ◌≤◌, take, filter, length, option_copied}
use Rattle.std.specs.BTreeMap.{keys}
use Rattle.lt_rules.specs.Table.{comes_after}
use Rattle.lt_plain.proofs.plain_table.first_keys.Given as goal

-- the copies made so far, followed by the remaining keys that come after the given one, begin as all of these do
abbrev pub invariant-loop-key : goal.invariant-loop-key
invariant-loop-key l =
    (take l.at_most (l.all.items ++ filter (comes_after (option_copied l.after)) l.key-iterator) ≡ take l.at_most (filter (comes_after (option_copied l.after)) (keys l.records)))
    × (length l.all.items ≤ l.at_most)
