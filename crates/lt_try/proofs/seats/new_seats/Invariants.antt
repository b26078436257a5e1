use Rattle.std.proofs.Common.{◌≡◌, length}
use Rattle.std.specs.List.{All}
use Rattle.lt_try.proofs.seats.new_seats.Given as goal

abbrev pub invariant-loop-index : goal.invariant-loop-index
invariant-loop-index l = (length l.seats.items ≡ l._index) × All (λ d. d.start.of ≡ l.book) l.seats.items
