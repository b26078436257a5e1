use Rattle.std.proofs.Common.{rules}
use Rattle.lt_table.proofs.linked.linked_tables.Goals as goal

pub returns-clause-many : goal.returns-clause-many
returns-clause-many c = search rules
