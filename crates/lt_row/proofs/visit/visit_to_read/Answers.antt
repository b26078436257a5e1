use Rattle.std.proofs.Common.{vec_capacity}
use Rattle.lt_row.specs.Row.{record_of}
use Rattle.lt_row.proofs.Grows.{stopped_grows}
use Rattle.lt_row.proofs.visit.visit_to_read.Goals as goal

pub returns-then-is_of-clause-room : goal.returns-then-is_of-clause-room
returns-then-is_of-clause-room c =
    stopped_grows (record_of c.args.links.now c.args.row.now) (record_of c.pass-then-is_of.new.links c.args.row.now) c.args.stand.now.number (vec_capacity c.args.lets.now) c.pass-then-is_of.ensures.is_outcome.moved

pub returns-then-lt-clause-room : goal.returns-then-lt-clause-room
returns-then-lt-clause-room c =
    stopped_grows (record_of c.args.links.now c.args.row.now) (record_of c.pass-then-lt.new.links c.args.row.now) c.args.stand.now.number (vec_capacity c.args.lets.now) c.pass-then-lt.ensures.is_outcome.moved
