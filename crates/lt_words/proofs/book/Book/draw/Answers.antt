use Rattle.lt_words.proofs.Draws.{drew}
use Rattle.lt_words.proofs.Passes.{wakes_of, sight_on}
use Rattle.lt_words.proofs.book.Book.draw.Goals as goal

pub invariant_of-pass : goal.invariant_of-pass
invariant_of-pass c = sight_on c.pass.inside.number c.pass.inside.seen c.draw.new.self c.pass.inside.rest.value.counts.items c.pass.inside.rest.value.taken.items (wakes_of c.pass.inside.rest.value) c.pass.invariant c.draw.ensures.more

pub returns-clause-drew : goal.returns-clause-drew
returns-clause-drew c = rw (← c.pass.view_is) (drew c.draw.result c.pass.inside.number c.args.max c.pass.inside.seen.seen c.draw.new.self.seen c.draw.ensures.some)
