use Rattle.std.proofs.Common.{◌≡◌, length, map}
use Rattle.lt_table_core.specs.Slots.{AreInPlace}
use Rattle.lt_table_core.proofs.opening.slots_of.Given as goal

abbrev pub invariant-loop-shard : goal.invariant-loop-shard
invariant-loop-shard g l = (length l.slots.items ≡ length l.yielded) × AreInPlace l.max_steps (map (λ s. s.label) l.slots.items)
