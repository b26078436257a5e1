use Rattle.std.proofs.Common.{rules}
use Rattle.lt_row.specs.Row.{record_of}
use Rattle.lt_row.proofs.Leaves.{lawful_freed}
use Rattle.lt_row.proofs.row.finish.Goals as goal

pub free-requires-clause-lawful : goal.free-requires-clause-lawful
free-requires-clause-lawful c = lawful_freed (record_of c.args.links.now c.args.row.now) c.requires.row.lawful c.in-Some.holder (search rules)
