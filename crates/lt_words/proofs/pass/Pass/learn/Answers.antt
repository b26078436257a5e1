use Rattle.lt_words.proofs.Passes.{wakes_of, sight_on}
use Rattle.lt_words.proofs.pass.Pass.learn.Goals as goal

pub invariant_of-self : goal.invariant_of-self
invariant_of-self c = sight_on c.self.inside.number c.self.inside.seen c.learn.new.self c.self.inside.rest.value.counts.items c.self.inside.rest.value.taken.items (wakes_of c.self.inside.rest.value) c.self.invariant (record { of = c.learn.ensures.of; seen = c.learn.ensures.this; shown = c.learn.ensures.shown_this; takes = c.learn.ensures.takes_this })
