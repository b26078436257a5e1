use Rattle.std.proofs.Common.{[], rules, refl, ◌∙◌}
use Rattle.lt_row.proofs.Rows.{first_cut}
use Rattle.lt_row.proofs.Acts.{own_dropped, other_set_back}
use Rattle.lt_row.proofs.row.set_back.Goals as goal

pub returns-then-is_of : goal.returns-then-is_of
returns-then-is_of c =
    let m = c.args.links.now in
    let cut = first_cut m c.requires.sound _ c.in-Some.node c.in-Some.ensures.first in
    own_dropped m c.args.row.now c.args.txn c.requires c.take_out.new.links _ c.queue.ensures c.in-Some.node cut.0 cut.1 c.stand-stand.result c.stand-stand.ensures.stand (search rules) (c.take_out.ensures _ [] cut.0 cut.1)

pub returns : goal.returns
returns c =
    let m = c.args.links.now in
    let cut = first_cut m c.requires.sound _ c.in-Some.node c.in-Some.ensures.first in
    other_set_back m c.args.row.now c.args.txn c.requires c.move_to_front.new.links _ c.queue.ensures c.in-Some.node cut.0 cut.1 c.stand-stand.result c.stand-stand.ensures.stand c.replace_stand.new.links _ _ c.queue-2.ensures (search rules) refl c.replace_stand.ensures.queues
    (c.replace_stand.ensures.writes _ [] cut.0 cut.1) (c.move_to_front.ensures _ [] cut.0 (c.replace_stand.ensures.queues _ ∙ cut.1))
