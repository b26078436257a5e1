-- What a close of the store says of the transactions of all sessions.
use Rattle.std.specs.Prelude.{◌≡◌, ◌≢◌, ⊤, List, [], ◌∷◌}
use Rattle.std.specs.List.{AllByRecursion}
use mathlib.Core.List.{IsPrefix}
use Rattle.lt_words.specs.Row.{Opening, PassState}
use Rattle.lt_walk.specs.declared.closing.Rests.{Rests}
use Rattle.lt_walk.specs.Closed.{IsClosedRest}
use Rattle.example_cells.specs.Committing.{LogState, WentInOrder}

-- The log is that of this pass, which has seen all that the log has.
pub record IsLogOf (p : PassState) (l : LogState) : Type 0 where
  pub number : p.number ≡ l.pass
  pub seen : IsPrefix l.seen p.seen

-- The passes have different numbers.
abbrev pub PassNumbersDiffer : List PassState → Type 0
PassNumbersDiffer [] = ⊤
PassNumbersDiffer (p ∷ ps) = AllByRecursion (λ q. p.number ≢ q.number) ps × PassNumbersDiffer ps

-- This was left of a table that was closed with these passes. The one legal history of the close has all that these logs
-- have seen, and their transactions went one after the other.
pub record ClosedInOrder (of : Opening) (passes : List PassState) (rests : Rests) (logs : List LogState) : Type 0 where
  pub closed : IsClosedRest of passes rests.shards.items rests.draws
  pub seen : AllByRecursion (λ l. IsPrefix l.seen closed.whole) logs
  pub in_order : WentInOrder logs
