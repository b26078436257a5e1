use Rattle.std.proofs.Common.{◌≡◌, map, take}
use Rattle.std.specs.List.{flat_map}
use Rattle.lt_writer.proofs.composer.entries_of.Given as goal

abbrev pub invariant-loop-shard : goal.invariant-loop-shard
invariant-loop-shard l = map (λ e. e.entry.now) l.entries.items ≡ flat_map (λ shard. shard.items) (take l.shard-index l.shards)
