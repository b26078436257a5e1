use Rattle.std.proofs.Common.{◌≡◌, length}
use Rattle.std.specs.List.{All}
use Rattle.std.specs.FinMap as finmap
use Rattle.lt_table_core.proofs.opening.empty_tables.Given as goal

abbrev pub invariant-loop : goal.invariant-loop
invariant-loop g l = (length l.tables.items ≡ l.counter) × All (λ t. g.T.KeyTable.records t ≡ finmap.empty) l.tables.items
