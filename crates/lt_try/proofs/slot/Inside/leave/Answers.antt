use Rattle.std.proofs.Common.{◌≡◌, ◌∙◌, [], arith, ap, subst, sym}
use Rattle.atomic_table.specs.Table.{Allows}
use Rattle.lt_try.specs.declared.slot.ShardTag.{ShardTag}
use Rattle.lt_try.specs.Tags.{IsTagged}
use Rattle.lt_try.specs.Slots.{StandsWhileFree, HoldsShard}
use Rattle.lt_try.proofs.SlotRule.{gives_it}
use Rattle.lt_try.proofs.slot.Inside.leave.Goals as goal

pub store-requires : goal.store-requires
store-requires g c =
    let seat = c.args.self.seat in
    let place = c.slot.inside.place.shared in
    let held : HoldsShard (IsTagged place.key) seat.me = subst (λ (tag : ShardTag). HoldsShard (IsTagged tag) seat.me) (sym (ap (λ slot. slot.tag) c.slot.view_is)) c.requires in (
      c.args.self.of_slot ∙ sym (ap (λ slot. slot.id) c.slot.view_is),
      omega (arith, c.slot.invariant.0),
      subst (λ n. Allows (StandsWhileFree place.key) n seat.id seat.me 8 (λ _. 0) (λ _ after. after.1 ≡ [])) (sym c.slot.invariant.1) (gives_it place.key seat.id seat.me held),
    )
