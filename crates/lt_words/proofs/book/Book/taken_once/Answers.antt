use Rattle.std.proofs.Common.{ap, arith, rules}
use Rattle.lt_words.specs.Row.{FrontGrows}
use Rattle.lt_words.proofs.Passes.{wakes_of, grows_on, sight_on, sees_on}
use Rattle.lt_words.proofs.book.Book.taken_once.Goals as goal

pub invariant_of-pass : goal.invariant_of-pass
invariant_of-pass c =
    let grew : FrontGrows c.pass.inside.seen c.try_taken.new.self = grows_on c.pass.inside.seen c.joined-ahead.result c.try_taken.new.self c.joined-ahead.ensures.this c.try_taken.ensures.more in
    sight_on c.pass.inside.number c.pass.inside.seen c.try_taken.new.self c.pass.inside.rest.value.counts.items c.pass.inside.rest.value.taken.items (wakes_of c.pass.inside.rest.value) c.pass.invariant grew

pub try_taken-requires-clause-shard : goal.try_taken-requires-clause-shard
try_taken-requires-clause-shard c = omega (arith, c.requires.shard, ap (λ o. o.shards) c.self.view_is, c.self.invariant.0.sizes.few_shards)

pub returns-clause-more : goal.returns-clause-more
returns-clause-more c =
    let grew : FrontGrows c.pass.inside.seen c.try_taken.new.self = grows_on c.pass.inside.seen c.joined-ahead.result c.try_taken.new.self c.joined-ahead.ensures.this c.try_taken.ensures.more in
    rw (← c.pass.view_is) (sees_on c.pass.inside.number c.pass.inside.seen c.try_taken.new.self c.pass.inside.rest.value.counts.items c.pass.inside.rest.value.taken.items (wakes_of c.pass.inside.rest.value) grew)

pub returns-clause-exact : goal.returns-clause-exact
returns-clause-exact c = search rules
