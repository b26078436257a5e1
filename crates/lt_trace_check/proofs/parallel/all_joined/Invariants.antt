use Rattle.std.proofs.Common.{List, ℕ, Option, vec_len}
use Rattle.std.specs.Prelude.{All, IfSome}
use Rattle.lt_trace_check.specs.Parallel.{IsCheckedPiece, KeepsPrefix}
use Rattle.lt_trace_check.proofs.parallel.all_joined.Given as goal

abbrev pub invariant-loop-piece : goal.invariant-loop-piece
invariant-loop-piece l =
    (known : Option (List ℕ)) (version : ℕ) → All (λ p. IfSome p (IsCheckedPiece known version)) l.fn.pieces.items
    → KeepsPrefix known l.fn.prefix l.prefix × All (λ p. IfSome p (IsCheckedPiece known version)) l.pieces.items

abbrev pub decreases-loop-piece : goal.decreases-loop-piece
decreases-loop-piece l = vec_len l.pieces
