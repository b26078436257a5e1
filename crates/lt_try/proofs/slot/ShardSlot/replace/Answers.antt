use Rattle.std.proofs.Common.{sym, subst}
use Rattle.lt_try.specs.Tags.{IsTagged, SlotState}
use Rattle.lt_try.specs.Slots.{HoldsShard}
use Rattle.lt_try.proofs.Entered.{held_is}
use Rattle.lt_try.proofs.slot.ShardSlot.replace.Goals as goal

pub replace-requires-clause-held : goal.replace-requires-clause-held
replace-requires-clause-held g c =
    let inside = c.in_ok-inside.inside in
    subst (λ (slot : SlotState). HoldsShard (IsTagged slot.tag) inside.seat.me) (sym c.in_ok-inside.ensures.1) c.in_ok-inside.ensures.0

pub returns : goal.returns
returns g c =
    let inside = c.in_ok-inside.inside in
    held_is (IsTagged c.args.self.now.tag) inside.seat.me c.replace.result c.in_ok-inside.ensures.0 c.replace.ensures
