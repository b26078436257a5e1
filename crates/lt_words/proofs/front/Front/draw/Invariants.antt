use Rattle.std.proofs.Common.{◌≡◌, ◌-◌}
use Rattle.lt_words.specs.History.{draws_of}
use Rattle.lt_words.specs.Row.{FrontGrows}
use Rattle.lt_words.proofs.front.Front.draw.Given as goal

abbrev pub invariant-loop-old : goal.invariant-loop-old
invariant-loop-old l = FrontGrows l.fn.self l.self × (l.old ≡ draws_of l.self.seen)

abbrev pub decreases-loop-old : goal.decreases-loop-old
decreases-loop-old l = l.max - l.old
