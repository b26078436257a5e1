use Rattle.lt_rules.specs.Rules.{number_of}
use Rattle.lt_plain.proofs.Rooms.{stopped_room}
use Rattle.lt_plain.proofs.plain_record.PlainRecord.pass.Goals as goal

pub returns-clause-room : goal.returns-clause-room
returns-clause-room c room = stopped_room c.args.self.now c.stop_reading.new.self (number_of c.args.q) room c.stop_reading.ensures
