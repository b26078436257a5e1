use Rattle.std.proofs.Common.{◌≡◌, length, map, vec_capacity}
use Rattle.lt_table_core.specs.Slots.{AreInPlace}
use Rattle.lt_table_core.proofs.closing.slots_back.Given as goal

abbrev pub invariant-loop-shard : goal.invariant-loop-shard
invariant-loop-shard g l = (length l.slots.items ≡ length l.yielded) × (vec_capacity l.slots ≡ vec_capacity l.initial.slots) × AreInPlace l.max_steps (map (λ s. s.label) l.slots.items)
