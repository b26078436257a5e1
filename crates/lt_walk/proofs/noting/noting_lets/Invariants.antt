use Rattle.std.proofs.Common.{◌≡◌, ◌≤◌, ◌<◌, ℕ, map, get_or}
use Rattle.std.specs.List.{All}
use Rattle.lt_words.specs.Row.{PassState, OwesNoWakeUp, quiet}
use Rattle.lt_walk.proofs.noting.noting_lets.Given as goal

abbrev pub invariant-loop-index : goal.invariant-loop-index
invariant-loop-index l =
    (map quiet l.noting.items ≡ map quiet l.initial.noting.items) × All (λ p. OwesNoWakeUp p) l.noting.items × ((k : ℕ) (d : PassState) → k < l.index → l.room ≤ (get_or l.noting.items k d).wakes.room)
