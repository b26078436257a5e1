use Rattle.std.proofs.Common.{◌≡◌}
use Rattle.lt_words.specs.History.{LetIn}
use Rattle.lt_walk.specs.declared.scan_results.Poll.TheVariants.{Through}
use Rattle.lt_walk.specs.Reported.{IsPoll, current_wait}
use Rattle.lt_table_core.proofs.table.Table.wait.Given as goal

abbrev pub invariant-loop : goal.invariant-loop
invariant-loop g l =
    (goal.iterator-loop g).can_next l.iterator' × (goal.iterator-loop g).is_finite l.iterator'
    × IsPoll l.fn.guard l.guard l.found
    × (l.found ≡ Through → LetIn l.guard.pass.seen l.guard.pass.number (current_wait l.guard.walk))
