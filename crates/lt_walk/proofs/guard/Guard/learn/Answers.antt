use Rattle.std.proofs.Common.{sym, subst, rules}
use Rattle.lt_words.specs.History.{LetIn}
use Rattle.lt_words.proofs.Histories.{let_later}
use Rattle.lt_walk.specs.Reported.{current_wait}
use Rattle.lt_walk.proofs.guard.Guard.learn.Goals as goal

pub invariant_of-self : goal.invariant_of-self
invariant_of-self c let_mode =
    let old = c.self.inside.pass in
    let more = c.learn.ensures.more in
    subst (λ n. LetIn c.learn.new.self.seen n (current_wait c.self.inside.walk)) (sym more.number) (let_later old.seen c.learn.new.self.seen old.number (current_wait c.self.inside.walk) more.seen (c.self.invariant let_mode))

pub returns-clause-seen : goal.returns-clause-seen
returns-clause-seen c = search rules

pub returns-clause-shown : goal.returns-clause-shown
returns-clause-shown c = search rules
