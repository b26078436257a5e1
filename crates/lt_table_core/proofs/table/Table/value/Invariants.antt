use Rattle.std.proofs.Common.{◌≡◌}
use Rattle.lt_table_core.proofs.table.Table.value.Given as goal

abbrev pub invariant-loop : goal.invariant-loop
invariant-loop g l =
    (goal.iterator-loop g).can_next l.iterator' × (goal.iterator-loop g).is_finite l.iterator'
    × (l.pass ≡ l.initial.pass) × goal.F-IsAlwaysCallable g l.f
