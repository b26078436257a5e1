use Rattle.std.proofs.Common.{rules}
use Rattle.lt_plain.proofs.plain_record.PlainRecord.visit_held.Goals as goal

pub returns-in-Read-clause-ok : goal.returns-in-Read-clause-ok
returns-in-Read-clause-ok c = search rules

pub returns-in-Read-clause-room : goal.returns-in-Read-clause-room
returns-in-Read-clause-room c = c.pass.ensures.room _
