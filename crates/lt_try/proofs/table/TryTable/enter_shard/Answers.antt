use Rattle.std.proofs.Common.{◌≡◌, ap, arith, sym, subst}
use Rattle.lt_words.specs.Row.{Opening}
use Rattle.lt_try.specs.Tags.{SlotState, TableState}
use Rattle.lt_try.specs.Slots.{IsInShard}
use Rattle.lt_try.proofs.Placed.{entered_at}
use Rattle.lt_try.proofs.table.TryTable.enter_shard.Goals as goal

pub returns : goal.returns
returns g c =
    let self = c.self.inside in
    let inside = c.in_ok-inside.inside in
    let of : self.book ≡ c.args.self.now.of = ap (λ (t : TableState). t.of) c.self.view_is in
    let entered : IsInShard self.book self.config.max_steps c.args.index c.index.result.now inside.seat.me =
    entered_at self.book self.config.max_steps self.slots.items c.args.index c.index.result.now inside.seat.me c.self.invariant.2 (omega (arith, c.requires, c.self.invariant.1, ap (λ (o : Opening). o.shards) of)) c.index.ensures c.in_ok-inside.ensures.0 in
    subst (λ (t : TableState). IsInShard t.of t.config.max_steps c.args.index inside.slot.now inside.seat.me) c.self.view_is
    (subst (λ (slot : SlotState). IsInShard self.book self.config.max_steps c.args.index slot inside.seat.me) (sym c.in_ok-inside.ensures.1) entered)
