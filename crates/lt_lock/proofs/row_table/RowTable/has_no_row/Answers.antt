use Rattle.std.proofs.Common.{◌∙◌, sym}
use Rattle.lt_lock.proofs.Tables.{no_records, no_rows}
use Rattle.lt_lock.proofs.row_table.RowTable.has_no_row.Goals as goal

pub returns : goal.returns
returns c = (
  λ e. sym c.self.view_is ∙ no_records c.self.inside.links c.self.inside.rows (c.is_empty.ensures.0 e),
  λ none. c.is_empty.ensures.1 (no_rows c.self.inside.links c.self.inside.rows (c.self.view_is ∙ none)),
)
