use Rattle.std.proofs.Common.{◌≡◌, length}
use Rattle.lt_words.proofs.book.hand_noted.Given as goal

abbrev pub invariant-loop-owed : goal.invariant-loop-owed
invariant-loop-owed g l = l.pass ≡ record l.fn.pass { wakes = record l.fn.pass.wakes { lets = l.pass.wakes.lets } }

abbrev pub decreases-loop-owed : goal.decreases-loop-owed
decreases-loop-owed g l = length l.pass.wakes.lets
