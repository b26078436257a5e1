use Rattle.std.proofs.Common.{◌≡◌, length}
use Rattle.lt_walk.specs.Configs.{AreNewShards}
use Rattle.lt_table_core.proofs.opening.shards_over.Given as goal

abbrev pub invariant-loop-table : goal.invariant-loop-table
invariant-loop-table g l = (length l.shards.items ≡ length l.yielded) × AreNewShards l.book l.max_steps l.shards.items
