use Rattle.std.proofs.Common.{length}
use Rattle.lt_checker.specs.Pieces.{MovesOver}
use Rattle.lt_checker.proofs.pieces.Checker.take_lines.Given as goal

abbrev pub invariant-loop-line : goal.invariant-loop-line
invariant-loop-line l = MovesOver l.initial.self l.piece l.self l.rest

abbrev pub decreases-loop-line : goal.decreases-loop-line
decreases-loop-line l = length l.rest
