use Rattle.std.proofs.Common.{length, ap, sym, ◌∙◌}
use Rattle.lt_lock.proofs.Tables.{found, missing, row_is}
use Rattle.lt_lock.proofs.row_table.lengths_at.Goals as goal

pub lengths-requires : goal.lengths-requires
lengths-requires c = (row_is c.args.links.now c.args.rows.now c.args.key.now c.in-Some.row.now c.requires c.in-Some.ensures.value).linked

pub returns-in-None-clause-writers : goal.returns-in-None-clause-writers
returns-in-None-clause-writers c = sym (ap (λ r. length r.writers) (missing c.args.links.now c.args.rows.now c.args.key.now c.in-None.ensures.value))

pub returns-in-None-clause-readers : goal.returns-in-None-clause-readers
returns-in-None-clause-readers c = sym (ap (λ r. length r.readers) (missing c.args.links.now c.args.rows.now c.args.key.now c.in-None.ensures.value))

pub returns-in-Some-clause-writers : goal.returns-in-Some-clause-writers
returns-in-Some-clause-writers c = c.lengths.ensures.writers ∙ sym (ap (λ r. length r.writers) (found c.args.links.now c.args.rows.now c.args.key.now c.in-Some.row.now c.in-Some.ensures.value))

pub returns-in-Some-clause-readers : goal.returns-in-Some-clause-readers
returns-in-Some-clause-readers c = c.lengths.ensures.readers ∙ sym (ap (λ r. length r.readers) (found c.args.links.now c.args.rows.now c.args.key.now c.in-Some.row.now c.in-Some.ensures.value))
