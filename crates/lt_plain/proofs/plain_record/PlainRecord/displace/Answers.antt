use Rattle.std.proofs.Common.{inr, vec_capacity}
use Rattle.lt_plain.proofs.plain_record.PlainRecord.displace.Goals as goal

pub returns-clause-room : goal.returns-clause-room
returns-clause-room c = inr c.in_ok-make_room.ensures.room

pub returns-then-is_none-clause-room : goal.returns-then-is_none-clause-room
returns-then-is_none-clause-room c = c.pass.ensures.room (vec_capacity c.args.lets.now)
