use Rattle.std.proofs.Common.{◌≡◌, length, filter}
use Rattle.lt_script.specs.Lines.{is_word}
use Rattle.lt_script.proofs.words.SpacedWords.peek.Given as goal

abbrev pub invariant-loop-piece : goal.invariant-loop-piece
invariant-loop-piece l = filter is_word l.self-inside.pieces ≡ filter is_word l.initial.self-inside.pieces

abbrev pub decreases-loop-piece : goal.decreases-loop-piece
decreases-loop-piece l = length l.self-inside.pieces
