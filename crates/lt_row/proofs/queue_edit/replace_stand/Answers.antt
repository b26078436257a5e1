use Rattle.lt_row.proofs.Results.{ok_on}
use Rattle.lt_row.proofs.queue_edit.replace_stand.Goals as goal

pub returns-clause-writes : goal.returns-clause-writes
returns-clause-writes c = ok_on c.renew_stand.result (c.renew_stand.ensures.same_txn c.requires.txn) c.renew_stand.ensures.writes
