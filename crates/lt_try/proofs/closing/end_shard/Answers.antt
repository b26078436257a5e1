use Rattle.std.proofs.Common.{◌∙◌, subst}
use Rattle.lt_words.specs.Row.{Opening}
use Rattle.lt_shard.specs.Shards.{IsShard}
use Rattle.lt_walk.proofs.Ends.{was_met}
use Rattle.lt_try.proofs.closing.end_shard.Goals as goal

pub returns-clause-ended : goal.returns-clause-ended
returns-clause-ended g c =
    let of = c.args.book.now in
    let was = c.args.shard in
    let met = c.if-not-meet_once.false in
    let kept : IsShard of c.meet_once.new.self = subst (λ (o : Opening). IsShard o c.meet_once.new.self) (c.meet_once.ensures.same.of ∙ c.requires.book) c.into_rest.ensures.kept in
    was_met of was c.meet_once.new.self c.args.last.now c.meet_once.new.pass c.into_rest.result kept c.meet_once.ensures.same c.into_rest.ensures.from c.into_rest.ensures.entries (c.meet_once.ensures.met met) (c.meet_once.ensures.told met) c.meet_once.ensures.more.seen
