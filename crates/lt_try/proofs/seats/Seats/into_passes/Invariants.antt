use Rattle.std.proofs.Common.{◌≡◌, ◌≤◌, ◌+◌, length, vec_capacity}
use Rattle.std.specs.List.{All}
use Rattle.lt_try.proofs.seats.Seats.into_passes.Given as goal

abbrev pub invariant-loop-pass : goal.invariant-loop-pass
invariant-loop-pass l =
    All (λ p. p.of ≡ l.fn.self) l.passes.items × All (λ p. p.of ≡ l.fn.self) l.given.items
    × (length l.passes.items + length l.given.items + l.fn.self.passes ≤ vec_capacity l.passes)

abbrev pub decreases-loop-pass : goal.decreases-loop-pass
decreases-loop-pass l = goal.left-loop-pass l

abbrev pub invariant-loop-seat : goal.invariant-loop-seat
invariant-loop-seat l =
    All (λ p. p.of ≡ l.fn.self) l.passes.items × All (λ d. d.start.of ≡ l.fn.self) l.seats.items
    × (length l.passes.items + length l.seats.items ≤ vec_capacity l.passes)

abbrev pub decreases-loop-seat : goal.decreases-loop-seat
decreases-loop-seat l = goal.left-loop-seat l
