use Rattle.std.proofs.Common.{◌≡◌, length}
use Rattle.lt_try.specs.Tags.{AreTags}
use Rattle.lt_try.proofs.opening.new_slots.Given as goal

abbrev pub invariant-loop-index : goal.invariant-loop-index
invariant-loop-index g l = (length l.slots.items ≡ l.index) × AreTags l.book l.max_steps l.slots.items
