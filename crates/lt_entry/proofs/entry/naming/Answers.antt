use Rattle.std.proofs.Common.{rules}
use Rattle.lt_entry.proofs.entry.naming.Goals as goal

pub returns-in-Lets-clause-txn : goal.returns-in-Lets-clause-txn
returns-in-Lets-clause-txn c = search rules
