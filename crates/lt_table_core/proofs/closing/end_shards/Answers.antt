use Rattle.std.proofs.Common.{◌≡◌, ◌∙◌, ◌∷◌, ◌++◌, [], length, rules, sym, ap, subst}
use Rattle.std.proofs.lemmas.Iterator.Adapters.{YieldsList-from_vec}
use Rattle.std.proofs.lemmas.Iterator.Consumers.{YieldsList-turn}
use Rattle.lt_walk.specs.Closed.{IsEnded, AreEnded}
use Rattle.lt_walk.proofs.Ends.{met_more, sees_on}
use Rattle.lt_table_core.proofs.closing.end_shards.Goals as goal

pub loop-shard-preserved : goal.loop-shard-preserved
loop-shard-preserved g c =
    let turn = YieldsList-turn (YieldsList-from_vec {s = c.into_iter-shard-iterator.result} c.args.shards.items (search rules) (search rules)) c.loop-shard.yielded c.loop-shard.shard-iterator c.loop-shard.yielded_by c.next.result c.next.new.self c.in-Some.shard c.in-Some.is c.next.ensures.steps in
    let here : c.in-Some.shard.index ≡ length c.loop-shard.yielded = ap (λ v. v.index) turn.1 ∙ c.requires.indices (length c.loop-shard.yielded) c.in-Some.shard turn.0 in
    let ended : IsEnded g.N.Name.of c.loop-shard.last c.end_shard-rest.new.last (length c.loop-shard.yielded) c.in-Some.shard c.end_shard-rest.result = subst (λ s. IsEnded g.N.Name.of c.loop-shard.last c.end_shard-rest.new.last s c.in-Some.shard c.end_shard-rest.result) here c.end_shard-rest.ensures.ended in
    let inv = c.loop-shard.invariant in (
      sees_on c.args.last.now c.loop-shard.last c.end_shard-rest.new.last inv.0 c.end_shard-rest.ensures.more,
      subst (λ ts. AreEnded g.N.Name.of c.args.last.now c.end_shard-rest.new.last (c.loop-shard.yielded ++ c.in-Some.shard ∷ []) ts) (sym c.push_reserved.ensures.items)
          (met_more g.N.Name.of c.args.last.now c.loop-shard.last c.end_shard-rest.new.last c.loop-shard.yielded c.loop-shard.rests.items c.in-Some.shard c.end_shard-rest.result inv.1 inv.0.seen c.end_shard-rest.ensures.more.seen c.end_shard-rest.ensures.more.shown ended),
      c.push_reserved.ensures.capacity ∙ inv.2,
    )
