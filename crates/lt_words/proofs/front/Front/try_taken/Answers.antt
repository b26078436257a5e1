use Rattle.lt_words.proofs.Logs.{sight_grows}
use Rattle.lt_words.proofs.front.Front.try_taken.Goals as goal

pub returns-clause-more : goal.returns-clause-more
returns-clause-more c =
    let seen = c.self.inside.seen in
    let after = c.compare_exchange-found.new.seen in
    let told = c.compare_exchange-found.ensures in
    rw (← c.self.view_is) (sight_grows seen.book after.book seen.log after.log told.0 c.self.invariant told.6)
