use Rattle.std.proofs.Common.{rules, vec_capacity}
use Rattle.lt_plain.proofs.plain_record.PlainRecord.visit_reserved.Goals as goal

pub returns-in-Greater-clause-ok : goal.returns-in-Greater-clause-ok
returns-in-Greater-clause-ok c = search rules

pub returns-then-eq-clause-room : goal.returns-then-eq-clause-room
returns-then-eq-clause-room c = c.pass.ensures.room (vec_capacity c.args.lets.now)

pub returns-in-Equal-clause-room : goal.returns-in-Equal-clause-room
returns-in-Equal-clause-room c = c.pass-in-Equal.ensures.room (vec_capacity c.args.lets.now)
