use Rattle.std.proofs.Common.{ap, length, sym, ◌∙◌}
use Rattle.lt_plain.proofs.Trees.{found, missing}
use Rattle.lt_plain.proofs.plain_table.lengths_at.Goals as goal

pub returns-in-None-clause-writers : goal.returns-in-None-clause-writers
returns-in-None-clause-writers c = ap (λ r. length r.writers) (sym (missing c.args.records.now c.args.key.now c.in-None.ensures.value))

pub returns-in-None-clause-readers : goal.returns-in-None-clause-readers
returns-in-None-clause-readers c = ap (λ r. length r.readers) (sym (missing c.args.records.now c.args.key.now c.in-None.ensures.value))

pub returns-in-Some-clause-writers : goal.returns-in-Some-clause-writers
returns-in-Some-clause-writers c = c.lengths.ensures.writers ∙ ap (λ r. length r.writers) (sym (found c.args.records.now c.args.key.now c.in-Some.record.now c.in-Some.ensures.value))

pub returns-in-Some-clause-readers : goal.returns-in-Some-clause-readers
returns-in-Some-clause-readers c = c.lengths.ensures.readers ∙ ap (λ r. length r.readers) (sym (found c.args.records.now c.args.key.now c.in-Some.record.now c.in-Some.ensures.value))
