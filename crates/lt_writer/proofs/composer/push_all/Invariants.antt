use Rattle.std.proofs.Common.{◌≡◌, ◌++◌, map, take}
use Rattle.lt_writer.proofs.composer.push_all.Given as goal

abbrev pub invariant-loop-entry : goal.invariant-loop-entry
invariant-loop-entry l = map (λ e. e.entry.now) l.entries.items ≡ map (λ e. e.entry.now) l.initial.entries.items ++ take l.entry-index l.shard
