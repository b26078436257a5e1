use Rattle.std.proofs.Common.{◌∙◌, ap, sym}
use Rattle.std_alloc.specs.Box.{with_value}
use Rattle.lt_handles.specs.declared.content.Content.TheVariants.{Table}
use Rattle.lt_handles.proofs.handle.step_content.Goals as goal

pub returns-in-Table-clause-table_kept : goal.returns-in-Table-clause-table_kept
returns-in-Table-clause-table_kept c = λ refused. ap (λ v. Table (with_value c.in-Table.table v)) (c.step.ensures.table_kept refused ∙ c.deref_mut.ensures.value) ∙ sym c.in-Table.is
