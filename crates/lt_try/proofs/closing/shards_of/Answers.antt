use Rattle.std.proofs.Common.{◌∷◌, [], arith, ap, length, length-append, refl, rules, subst, sym}
use Rattle.lt_try.specs.Tags.{IsPlaced}
use Rattle.lt_try.proofs.Placed.{placed_by_tag, one_more}
use Rattle.lt_try.proofs.closing.shards_of.Goals as goal

pub loop-index-init : goal.loop-index-init
loop-index-init g c = (ap length c.requires.empty, refl, λ s v lt. absurd (omega (arith, lt, ap length c.requires.empty)))

pub push_reserved-requires : goal.push_reserved-requires
push_reserved-requires g c = omega (arith, c.loop-index.invariant.0, c.loop-index.invariant.1, c.loop-index-test.true, c.requires.room, c.loop-index.shards.ok.0)

pub loop-index-preserved : goal.loop-index-preserved
loop-index-preserved g c =
    let grown = c.push_reserved.ensures.items in
    let shard = c.in_ok-shard.shard in
    let here : IsPlaced c.args.book.now c.args.max_steps c.loop-index.index shard = placed_by_tag c.args.book.now c.args.max_steps c.args.slots.now c.loop-index.index c.index-slots-index.result shard c.requires.tags c.loop-index-test.true c.index-slots-index.is c.in_ok-shard.ensures in (
      omega (arith, ap length grown, length-append c.loop-index.shards.items (shard ∷ []), c.loop-index.invariant.0),
      search rules,
      one_more c.args.book.now c.args.max_steps c.loop-index.shards.items c.push_reserved.new.self.items shard c.loop-index.invariant.2 grown (subst (λ n. IsPlaced c.args.book.now c.args.max_steps n shard) (sym c.loop-index.invariant.0) here),
    )
