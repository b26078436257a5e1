use Rattle.std.proofs.Common.{◌≡◌, ◌-◌}
use Rattle.lt_ids.specs.Ids.{value_of}
use Rattle.lt_words.specs.Shown.{word_of}
use Rattle.lt_words.specs.Row.{FrontGrows}
use Rattle.lt_words.proofs.front.Front.signal.Given as goal

abbrev pub invariant-loop-old : goal.invariant-loop-old
invariant-loop-old l = FrontGrows l.fn.self l.self × (l.old ≡ word_of l.pass l.self.shown)

abbrev pub decreases-loop-old : goal.decreases-loop-old
decreases-loop-old l = value_of l.ticket - l.old
