use Rattle.std.proofs.Common.{◌≡◌, length, vec_capacity}
use Rattle.lt_table_core.proofs.closing.shards_of.Given as goal

abbrev pub invariant-loop-slot : goal.invariant-loop-slot
invariant-loop-slot g l = (length l.shards.items ≡ length l.yielded) × (vec_capacity l.shards ≡ vec_capacity l.initial.shards)
