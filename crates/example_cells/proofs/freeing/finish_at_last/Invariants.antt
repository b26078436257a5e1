use Rattle.std.proofs.Common.{◌≡◌}
use Rattle.example_cells.proofs.freeing.finish_at_last.Given as goal

abbrev pub invariant-loop : goal.invariant-loop
invariant-loop g l =
    (goal.iterator-loop g).can_next l.iterator' × (goal.iterator-loop g).is_finite l.iterator'
    × (l.pass ≡ l.initial.pass) × (l.put ≡ l.initial.put) × goal.F-IsAlwaysCallable g l.put
