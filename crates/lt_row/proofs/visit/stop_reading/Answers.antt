use Rattle.std.proofs.Common.{rules}
use Rattle.lt_row.proofs.Rows.{cut_there}
use Rattle.lt_row.proofs.Waits.{missing_stops, found_stops, reader_stops}
use Rattle.lt_row.proofs.visit.stop_reading.Goals as goal

pub returns-in_default : goal.returns-in_default
returns-in_default c = missing_stops c.args.links.now c.args.row.now c.args.stand.now.number (rw c.in_default.is at c.requires.found) c.requires.row.linked

pub returns-then-ne : goal.returns-then-ne
returns-then-ne c = found_stops c.args.links.now c.args.row.now c.args.stand.now.number c.requires.row.linked c.requires.row.lawful.first.numbers_differ _ _ (rw c.in-Some.is at c.requires.found) (search rules)

pub take_out-requires-clause-there : goal.take_out-requires-clause-there
take_out-requires-clause-there c = let f = rw c.in-Some.is at c.requires.found in cut_there c.args.links.now c.requires.row.linked.sound _ _ f.before f.after f.cut

pub returns : goal.returns
returns c =
    let f = rw c.in-Some.is at c.requires.found in
    reader_stops c.args.links.now c.args.row.now c.args.stand.now.number c.requires.row.linked c.requires.row.lawful.first.numbers_differ _ _ f c.take_out.new.links (search rules) (c.take_out.ensures _ f.before f.after f.cut)
