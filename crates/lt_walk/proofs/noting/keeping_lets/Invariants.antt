use Rattle.std.proofs.Common.{◌≡◌, ◌+◌, ◌<◌, ℕ, None, map, get_or, replicate}
use Rattle.std.specs.List.{All}
use Rattle.lt_words.specs.Row.{PassState, OwesNoWakeUp, quiet}
use Rattle.lt_walk.proofs.noting.keeping_lets.Given as goal

abbrev pub invariant-loop-index : goal.invariant-loop-index
invariant-loop-index l =
    (map quiet l.keeping.items ≡ map quiet l.initial.keeping.items) × All (λ p. OwesNoWakeUp p) l.keeping.items
    × ((k : ℕ) (d : PassState) → k < l.index → (get_or l.keeping.items k d).wakes.untold ≡ replicate ((get_or l.keeping.items k d).of.passes + 1) None)
