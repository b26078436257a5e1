use Rattle.std.proofs.Common.{◌∙◌, ◌∷◌, ◌++◌, [], length, rules, sym, subst}
use Rattle.std.proofs.lemmas.Iterator.Adapters.{YieldsList-from_vec}
use Rattle.std.proofs.lemmas.Iterator.Consumers.{YieldsList-turn}
use Rattle.lt_walk.specs.Closed.{IsEnded, AreEnded}
use Rattle.lt_walk.proofs.Ends.{met_more, sees_on}
use Rattle.lt_try.specs.Tags.{IsPlaced}
use Rattle.lt_try.proofs.Placed.{placed_at}
use Rattle.lt_try.proofs.closing.end_shards.Goals as goal

pub end_shard-requires-clause-book : goal.end_shard-requires-clause-book
end_shard-requires-clause-book g c =
    let turn = YieldsList-turn (YieldsList-from_vec {s = c.into_iter-shard-iterator.result} c.args.shards.items (search rules) (search rules)) c.loop-shard.yielded c.loop-shard.shard-iterator c.loop-shard.yielded_by c.next.result c.next.new.self c.in-Some.shard c.in-Some.is c.next.ensures.steps in
    (placed_at c.args.book.now c.args.max_steps c.args.shards.items (length c.loop-shard.yielded) c.in-Some.shard c.requires.placed turn.0 turn.1).book_is

pub loop-shard-preserved : goal.loop-shard-preserved
loop-shard-preserved g c =
    let of = c.args.book.now in
    let shard = c.in-Some.shard in
    let before = c.loop-shard.yielded in
    let turn = YieldsList-turn (YieldsList-from_vec {s = c.into_iter-shard-iterator.result} c.args.shards.items (search rules) (search rules)) before c.loop-shard.shard-iterator c.loop-shard.yielded_by c.next.result c.next.new.self shard c.in-Some.is c.next.ensures.steps in
    let at : IsPlaced of c.args.max_steps (length before) shard = placed_at of c.args.max_steps c.args.shards.items (length before) shard c.requires.placed turn.0 turn.1 in
    let ended : IsEnded of c.loop-shard.last c.end_shard.new.last (length before) shard c.in_ok-rest.rest = subst (λ s. IsEnded of c.loop-shard.last c.end_shard.new.last s shard c.in_ok-rest.rest) at.index_is c.in_ok-rest.ensures.ended in
    let inv = c.loop-shard.invariant in (
      sees_on c.args.last.now c.loop-shard.last c.end_shard.new.last inv.0 c.end_shard.ensures.more,
      subst (λ ts. AreEnded of c.args.last.now c.end_shard.new.last (before ++ shard ∷ []) ts) (sym c.push_reserved.ensures.items)
          (met_more of c.args.last.now c.loop-shard.last c.end_shard.new.last before c.loop-shard.rests.items shard c.in_ok-rest.rest inv.1 inv.0.seen c.end_shard.ensures.more.seen c.end_shard.ensures.more.shown ended),
      c.push_reserved.ensures.capacity ∙ inv.2,
    )

pub returns-in_err-rest-clause-more : goal.returns-in_err-rest-clause-more
returns-in_err-rest-clause-more g c = sees_on c.args.last.now c.loop-shard.last c.end_shard.new.last c.loop-shard.invariant.0 c.end_shard.ensures.more
