use Rattle.std.proofs.Common.{◌≡◌, arith, ap, refl, subst, sym}
use Rattle.atomic_table.specs.Table.{Arrives}
use Rattle.lt_try.specs.declared.slot.ShardTag.{ShardTag}
use Rattle.lt_try.specs.Tags.{IsTagged}
use Rattle.lt_try.specs.Slots.{StandsWhileFree, HoldsShard}
use Rattle.lt_try.proofs.SlotRule.{takes_it}
use Rattle.lt_try.proofs.slot.ShardSlot.enter.Goals as goal

pub swap_new_seat-found-requires : goal.swap_new_seat-found-requires
swap_new_seat-found-requires g c = let tag = c.self.inside.place.shared.key in
    (omega (arith, c.self.invariant.0), subst (λ n. Arrives (StandsWhileFree tag) n 8 (λ _. 1) (λ found me. found ≡ 0 → HoldsShard (IsTagged tag) me)) (sym c.self.invariant.1) (takes_it tag))

pub returns : goal.returns
returns g c = (subst (λ (tag : ShardTag). HoldsShard (IsTagged tag) c.swap_new_seat-found.result.1.me) (ap (λ slot. slot.tag) c.self.view_is) (c.swap_new_seat-found.ensures.1 c.if-found-ne-FREE.false), refl)
