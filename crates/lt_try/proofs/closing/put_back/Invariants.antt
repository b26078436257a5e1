use Rattle.std.proofs.Common.{◌≤◌, length}
use Rattle.lt_try.specs.Tags.{ArePlaced}
use Rattle.lt_try.proofs.closing.put_back.Given as goal

abbrev pub invariant-loop-shard : goal.invariant-loop-shard
invariant-loop-shard g l = (length l.shards.items ≤ length l.slots) × ArePlaced l.book l.max_steps l.shards.items

abbrev pub decreases-loop-shard : goal.decreases-loop-shard
decreases-loop-shard g l = length l.shards.items
