use Rattle.std.proofs.Common.{◌∙◌, ap, sym}
use Rattle.lt_try.proofs.Entered.{can_lend, can_leave}
use Rattle.lt_try.proofs.table.TryTableKeySteps.step.Goals as goal

pub slot_mut-shard-requires : goal.slot_mut-shard-requires
slot_mut-shard-requires g c = let inside = c.in-Some.inside in
    (inside.of_slot ∙ sym (ap (λ slot. slot.id) c.slot.view_is), can_lend c.in-Some.ensures)

pub leave-requires : goal.leave-requires
leave-requires g c = let made = c.step_inside-answered in
    can_leave c.in-Some.ensures c.slot_mut-shard.ensures.value (record { of = made.ensures.of; index = made.ensures.index; max_steps = made.ensures.max_steps })
