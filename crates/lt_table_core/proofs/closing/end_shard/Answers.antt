use Rattle.std.proofs.Common.{◌∙◌, subst}
use Rattle.lt_words.specs.Row.{Opening}
use Rattle.lt_shard.specs.Shards.{View, IsShard}
use Rattle.lt_walk.specs.Closed.{IsEnded}
use Rattle.lt_walk.proofs.Ends.{was_met}
use Rattle.lt_table_core.proofs.closing.end_shard.Goals as goal

pub returns-clause-ended : goal.returns-clause-ended
returns-clause-ended g c =
    let of = g.N.Name.of in
    let was = c.into_parts-shard.result.0 in
    let kept : IsShard of c.meet.new.self = subst (λ (o : Opening). IsShard o c.meet.new.self) (c.meet.ensures.same.of ∙ c.into_parts-shard.ensures.of) c.into_rest.ensures.kept in
    subst (λ (v : View). IsEnded of c.args.last.now c.meet.new.pass v.index v c.into_rest.result) c.into_parts-shard.ensures.same
    (was_met of was c.meet.new.self c.args.last.now c.meet.new.pass c.into_rest.result kept c.meet.ensures.same c.into_rest.ensures.from c.into_rest.ensures.entries c.meet.ensures.met c.meet.ensures.told c.meet.ensures.more.seen)
