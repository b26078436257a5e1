use Rattle.std.proofs.Common.{sym, subst}
use Rattle.example_cells.specs.Knowing.{CellsKnow}
use Rattle.example_cells.specs.declared.cells.Cells.{Cells}
use Rattle.example_cells.proofs.cell_table.CellTable.load.Goals as goal

pub change_value-requires-clause-keeps : goal.change_value-requires-clause-keeps
change_value-requires-clause-keeps g c = λ es v a w fits told.
    subst (λ (x : Cells g.row.N.Denot g.N.Name g.N.ValueName). CellsKnow es x.map) told.leaves (told.met es (subst (λ (x : Cells g.row.N.Denot g.N.Name g.N.ValueName). CellsKnow es x.map) (sym told.shows) fits))
