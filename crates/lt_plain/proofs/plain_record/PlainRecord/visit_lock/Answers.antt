use Rattle.std.proofs.Common.{rules, vec_capacity}
use Rattle.lt_plain.proofs.plain_record.PlainRecord.visit_lock.Goals as goal

pub returns-in_default-clause-no_memory : goal.returns-in_default-clause-no_memory
returns-in_default-clause-no_memory c = search rules

pub returns-in_default-clause-room : goal.returns-in_default-clause-room
returns-in_default-clause-room c = c.pass.ensures.room (vec_capacity c.args.lets.now)
