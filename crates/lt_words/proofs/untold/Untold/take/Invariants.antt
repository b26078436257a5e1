use Rattle.std.proofs.Common.{◌≡◌, ◌-◌}
use Rattle.lt_words.proofs.untold.Untold.take.Given as goal

abbrev pub invariant-loop-self : goal.invariant-loop-self
invariant-loop-self l = l.self.tickets.items ≡ l.initial.self.tickets.items

abbrev pub decreases-loop-self : goal.decreases-loop-self
decreases-loop-self l = l.self.until - l.self.from
