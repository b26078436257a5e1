use Rattle.std.proofs.Common.{◌∙◌, ap, sym}
use Rattle.lt_try.proofs.Entered.{can_lend, stays_after_look, can_leave}
use Rattle.lt_try.proofs.table.TryTable.locked_keys.Goals as goal

pub slot_mut-entered-requires : goal.slot_mut-entered-requires
slot_mut-entered-requires g c = let inside = c.in-Some.inside in
    (inside.of_slot ∙ sym (ap (λ slot. slot.id) c.slot.view_is), can_lend c.in-Some.ensures)

pub leave-requires : goal.leave-requires
leave-requires g c = let call = c.locked_keys_once-all in
    can_leave c.in-Some.ensures c.slot_mut-entered.ensures.value (stays_after_look call.ensures.same)
