use Rattle.std.proofs.Common.{◌≡◌, ◌∷◌, ◌++◌, [], List, ap, map, refl, ◌∙◌}
use mathlib.Core.Option.{some}
use lib.ListN.{get_elem?}
use Rattle.lt_shard.specs.Shards.{View}
use Rattle.lt_try.proofs.slot.ShardSlot.new.Goals as goal

pub new-requires : goal.new-requires
new-requires g c =
    let all : c.push_reserved.new.self.items ≡ c.args.shard ∷ [] = c.push_reserved.ensures.items ∙ ap (λ (l : List View). l ++ c.args.shard ∷ []) c.in_ok-shards.ensures.items in
    (refl, λ _. (c.args.shard, ap (λ (l : List View). get_elem? (map some l) 0) all, c.requires), λ taken. absurd (taken refl))
