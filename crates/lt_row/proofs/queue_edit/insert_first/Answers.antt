use Rattle.lt_row.proofs.Written.{WritesQueue-pushed, KeepsNodes-pushed}
use Rattle.lt_row.proofs.queue_edit.insert_first.Goals as goal

pub returns-clause-ok : goal.returns-clause-ok
returns-clause-ok c =
    let pushed = c.in_ok-push_front.ensures in
    WritesQueue-pushed c.args.links.now c.push_front.new.self c.in_ok-push_front.field-0 c.args.to.now c.args.stand.now c.requires.sound pushed.fresh pushed.pushes pushed.sound

pub returns-clause-nodes : goal.returns-clause-nodes
returns-clause-nodes c =
    let pushed = c.in_ok-push_front.ensures in
    KeepsNodes-pushed c.args.links.now c.push_front.new.self c.in_ok-push_front.field-0 c.args.to.now c.args.stand.now c.requires.sound pushed.fresh pushed.pushes
