use Rattle.std.proofs.Common.{◌≡◌, true}
use Rattle.std.specs.List.{AllByRecursion}
use mathlib.Core.List.{IsPrefix}
use Rattle.example_cells.specs.Committing.{LeavesValue}
use Rattle.example_cells.proofs.cell_table.CellTable.abort.Given as goal

abbrev pub invariant-loop-lock : goal.invariant-loop-lock
invariant-loop-lock g l = record {
  of : l.pass.of ≡ g.N.Name.of;
  number : l.pass.number ≡ l.initial.pass.number;
  more : IsPrefix l.initial.pass.seen l.pass.seen;
  leaves : l.freed ≡ true → AllByRecursion (λ k. LeavesValue g.N.Name.of.shards l.pass.seen k.key) l.yielded;
}
