use Rattle.lt_row.proofs.Written.{MovesToFront-moved}
use Rattle.lt_row.proofs.queue_edit.move_to_front.Goals as goal

pub returns : goal.returns
returns c = λ q xs ys cut. MovesToFront-moved c.args.links.now c.move_front.new.self q c.args.node xs ys c.requires.sound cut c.args.to.now c.move_front.ensures.moves c.move_front.ensures.sound
