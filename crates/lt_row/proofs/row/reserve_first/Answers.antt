use Rattle.std.proofs.Common.{[]}
use Rattle.lt_row.proofs.Rows.{first_cut}
use Rattle.lt_row.proofs.Acts.{first_reserved, none_to_reserve, no_line}
use Rattle.lt_row.proofs.row.reserve_first.Goals as goal

pub returns-in-Some : goal.returns-in-Some
returns-in-Some c =
    let m = c.args.links.now in
    let cut = first_cut m c.requires.linked.sound _ c.in-Some.node c.in-Some.ensures.first in
    first_reserved m c.move_to_front.new.links c.args.row.now c.requires.linked c.requires.none _ _ c.in-Some.node cut.0 c.queue.ensures c.queue-in-Some.ensures cut.1 (c.move_to_front.ensures _ [] cut.0 cut.1)

pub returns-in_default : goal.returns-in_default
returns-in_default c = none_to_reserve c.args.links.now c.args.links.now c.args.row.now c.requires.linked c.requires.none (no_line c.args.links.now _ _ c.queue.ensures c.in_default.ensures.first)
