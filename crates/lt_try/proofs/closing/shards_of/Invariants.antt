use Rattle.std.proofs.Common.{◌≡◌, length, vec_capacity}
use Rattle.lt_try.specs.Tags.{ArePlaced}
use Rattle.lt_try.proofs.closing.shards_of.Given as goal

abbrev pub invariant-loop-index : goal.invariant-loop-index
invariant-loop-index g l = (length l.shards.items ≡ l.index) × (vec_capacity l.shards ≡ vec_capacity l.initial.shards) × ArePlaced l.book l.max_steps l.shards.items
