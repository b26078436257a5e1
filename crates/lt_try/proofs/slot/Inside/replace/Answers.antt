use Rattle.std.proofs.Common.{◌≡◌, ◌∙◌, ◌∷◌, [], ap, get_or, sym, ℕ, List}
use Rattle.atomic_table.specs.Table.{Me, rest}
use Rattle.lt_shard.specs.Shards.{View}
use Rattle.lt_try.specs.declared.slot.ShardTag.{ShardTag}
use Rattle.lt_try.proofs.slot.Inside.replace.Goals as goal

pub exchange-was-requires : goal.exchange-was-requires
exchange-was-requires g c = let held = c.requires.held in
    (c.args.self.of_slot ∙ sym (ap (λ slot. slot.id) c.slot.view_is), (held.0, held.1 ∙ ap (λ (l : List (ℕ × View)). (0, held.0) ∷ rest l) (sym held.1)))

pub leave-requires : goal.leave-requires
leave-requires g c =
    let alone : rest c.args.self.seat.me.1 ≡ [] = ap (λ (l : List (ℕ × View)). rest l) c.requires.held.1 in
    (c.args.shard, ap (λ (me : Me View ShardTag). me.1) c.exchange-was.ensures.3 ∙ ap (λ (l : List (ℕ × View)). (0, c.args.shard) ∷ l) alone, c.requires.tag)

pub returns : goal.returns
returns g c =
    let held = c.requires.held in
    (held.0, held.1, ap (λ (l : List (ℕ × View)). (get_or l 0 (0, held.0)).1) (sym held.1 ∙ c.exchange-was.ensures.2))
