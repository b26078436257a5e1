use Rattle.std.proofs.Common.{◌≡◌, length}
use Rattle.lt_checker.specs.Lines.{tickets_of}
use Rattle.lt_checker.proofs.Tickets.{with_prefix}
use Rattle.lt_checker.proofs.line.tickets.Given as goal

abbrev pub invariant-loop-word : goal.invariant-loop-word
invariant-loop-word l = with_prefix l.list.items (tickets_of l.words) ≡ tickets_of l.fn.words

abbrev pub decreases-loop-word : goal.decreases-loop-word
decreases-loop-word l = length l.words
