use Rattle.std.proofs.Common.{rules}
use Rattle.lt_row.specs.Row.{record_of}
use Rattle.lt_row.proofs.Leaves.{lawful_taken, lawful_raised}
use Rattle.lt_row.proofs.row.acquire.Goals as goal

pub take_lock-requires-clause-lawful : goal.take_lock-requires-clause-lawful
take_lock-requires-clause-lawful c = lawful_taken (record_of c.args.links.now c.args.row.now) c.requires.row.lawful c.args.txn c.args.ts (search rules)

pub raise-requires-clause-lawful : goal.raise-requires-clause-lawful
raise-requires-clause-lawful c = lawful_raised (record_of c.args.links.now c.args.row.now) c.requires.row.lawful c.in-Some.holder c.args.ts (search rules)
