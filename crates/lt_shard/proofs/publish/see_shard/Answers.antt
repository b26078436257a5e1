use Rattle.std.proofs.Common.{sym, subst}
use mathlib.Core.List.{IsPrefix}
use Rattle.lt_words.specs.Row.{FrontState}
use Rattle.lt_words.proofs.Prefixes.{prefix_trans}
use Rattle.lt_shard.proofs.Storing.{same_steps}
use Rattle.lt_shard.proofs.publish.see_shard.Goals as goal

pub returns-clause-stays : goal.returns-clause-stays
returns-clause-stays g c =
    let learned : IsPrefix c.args.front.now.seen c.learn.new.self.seen = subst (λ (f : FrontState). IsPrefix f.seen c.learn.new.self.seen) c.again-ahead.ensures c.learn.ensures.this in
    sym (same_steps c.args.place.shard c.args.place.at c.args.front.now c.exact.new.front (prefix_trans c.args.front.now.seen c.learn.new.self.seen c.exact.new.front.seen learned c.exact.ensures.front.seen) c.requires.at (c.exact.ensures.exact c.if-not-exact.false))
