use Rattle.std.proofs.Common.{rules}
use Rattle.lt_words.proofs.Passes.{wakes_of, sight_on}
use Rattle.lt_words.proofs.book.Book.show.Goals as goal

pub invariant_of-pass : goal.invariant_of-pass
invariant_of-pass c = sight_on c.pass.inside.number c.pass.inside.seen c.signal.new.self c.pass.inside.rest.value.counts.items c.pass.inside.rest.value.taken.items (wakes_of c.pass.inside.rest.value) c.pass.invariant c.signal.ensures.more

pub returns-clause-shown : goal.returns-clause-shown
returns-clause-shown c = search rules

pub signal-requires-clause-through : goal.signal-requires-clause-through
signal-requires-clause-through c = search rules
