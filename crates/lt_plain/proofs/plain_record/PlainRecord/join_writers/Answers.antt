use Rattle.std.proofs.Common.{inr, vec_capacity}
use Rattle.lt_rules.specs.Rules.{number_of}
use Rattle.lt_plain.proofs.Rooms.{on_ok, stopped_room}
use Rattle.lt_plain.proofs.plain_record.PlainRecord.join_writers.Goals as goal

pub returns-then-is_too_long-clause-room : goal.returns-then-is_too_long-clause-room
returns-then-is_too_long-clause-room c =
    stopped_room c.args.self.now c.stop_reading.new.self (number_of c.args.q) (vec_capacity c.args.lets.now) c.stop_reading.ensures

pub returns-clause-room : goal.returns-clause-room
returns-clause-room c = on_ok c.wait_to_write.result _ (inr c.in_ok-make_room.ensures.room)
