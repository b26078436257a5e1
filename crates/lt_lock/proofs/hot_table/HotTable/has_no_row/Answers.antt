use Rattle.std.proofs.Common.{◌≡◌, ◌∙◌, false, not, is_some, None, ap, sym}
use mathlib.Core.Bool.{true≢false}
use Rattle.lt_lock.proofs.HotKeys.{no_hot}
use Rattle.lt_lock.proofs.hot_table.HotTable.has_no_row.Goals as goal

pub returns-else-is_none : goal.returns-else-is_none
returns-else-is_none c = (
  λ t. absurd (true≢false (sym t ∙ c.if-is_none.false)),
  λ e.
      let none : c.self.inside.hot ≡ None = (no_hot c.self.inside.hot c.self.inside.kept c.self.inside.rows (c.self.view_is ∙ e)).0 in
      let no : not c.is_none.result ≡ false = sym c.is_none.ensures ∙ ap is_some none in
      absurd (true≢false (sym (ap not c.if-is_none.false) ∙ no)),
)
