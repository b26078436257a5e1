use Rattle.std.proofs.Common.{sym, subst, vec_capacity, arith}
use Rattle.lt_rules.specs.Memory.{HasRoom}
use Rattle.lt_rules.proofs.Rooms.{no_room_needed}
use Rattle.lt_handles.proofs.held.HeldTable.new.Goals as goal

pub invariant_of-result : goal.invariant_of-result
invariant_of-result c = (omega arith, subst (λ m. HasRoom m (vec_capacity c.new-2.result)) (sym c.new.ensures) (no_room_needed (vec_capacity c.new-2.result)))
