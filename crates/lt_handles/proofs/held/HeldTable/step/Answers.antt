use Rattle.std.proofs.lemmas.Grind.{common_steps}
use Rattle.std.proofs.Common.{arith, rules}
use Rattle.lt_handles.proofs.held.HeldTable.step.Goals as goal

pub returns-clause-table_kept : goal.returns-clause-table_kept
returns-clause-table_kept c = search rules

pub make-requires : goal.make-requires
make-requires c = grind (arith, common_steps)

pub returns-clause-refused : goal.returns-clause-refused
returns-clause-refused c = grind (arith, common_steps)

pub returns-in-Err-clause-refused : goal.returns-in-Err-clause-refused
returns-in-Err-clause-refused c = grind (arith, common_steps)

pub returns-in-Ok-make-clause-refused : goal.returns-in-Ok-make-clause-refused
returns-in-Ok-make-clause-refused c = grind (arith, common_steps)
