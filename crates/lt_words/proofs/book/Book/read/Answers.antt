use Rattle.std.proofs.Common.{rules}
use Rattle.lt_words.proofs.Passes.{wakes_of, sight_on}
use Rattle.lt_words.proofs.book.Book.read.Goals as goal

pub invariant_of-pass : goal.invariant_of-pass
invariant_of-pass c = sight_on c.pass.inside.number c.pass.inside.seen c.read.new.self c.pass.inside.rest.value.counts.items c.pass.inside.rest.value.taken.items (wakes_of c.pass.inside.rest.value) c.pass.invariant c.read.ensures.more

pub returns-clause-status : goal.returns-clause-status
returns-clause-status c = search rules

pub returns-clause-word : goal.returns-clause-word
returns-clause-word c = search rules
