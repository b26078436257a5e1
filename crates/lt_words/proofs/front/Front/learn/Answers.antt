use Rattle.lt_words.specs.Row.{FrontGrows, front_state}
use Rattle.lt_words.proofs.Logs.{sight_grows, history_prefix, shown_prefix, takes_prefix}
use Rattle.lt_words.proofs.front.Front.learn.Goals as goal

grew : (c : goal.After-learn) → FrontGrows (front_state c.self.inside.seen.book c.self.inside.seen.log) (front_state c.learn.new.self.book c.learn.new.self.log)
grew c = sight_grows c.self.inside.seen.book c.learn.new.self.book c.self.inside.seen.log c.learn.new.self.log c.learn.ensures.0 c.self.invariant c.learn.ensures.2

pub returns-clause-of : goal.returns-clause-of
returns-clause-of c = rw (← c.self.view_is) (grew c).of

pub returns-clause-this : goal.returns-clause-this
returns-clause-this c = rw (← c.self.view_is) (grew c).seen

pub returns-clause-that : goal.returns-clause-that
returns-clause-that c = rw (← c.other.view_is) (history_prefix c.other.inside.seen.log c.learn.new.self.log c.other.invariant c.learn.ensures.3)

pub returns-clause-shown_this : goal.returns-clause-shown_this
returns-clause-shown_this c = rw (← c.self.view_is) (grew c).shown

pub returns-clause-shown_that : goal.returns-clause-shown_that
returns-clause-shown_that c = rw (← c.other.view_is) (shown_prefix c.other.inside.seen.log c.learn.new.self.log c.learn.ensures.3)

pub returns-clause-takes_this : goal.returns-clause-takes_this
returns-clause-takes_this c = rw (← c.self.view_is) (grew c).takes

pub returns-clause-takes_that : goal.returns-clause-takes_that
returns-clause-takes_that c = rw (← c.other.view_is) (takes_prefix c.other.inside.seen.log c.learn.new.self.log c.learn.ensures.3)
