use Rattle.std.proofs.Common.{take}
use Rattle.std.specs.List.{AllByRecursion}
use Rattle.example_cells.specs.Committing.{IsLog}
use Rattle.example_cells.proofs.log.commits_went_in_order.Given as goal

abbrev pub invariant-loop-log : goal.invariant-loop-log
invariant-loop-log g l = AllByRecursion (IsLog g.N.Name.of) (take l.log-index l.logs.items)
