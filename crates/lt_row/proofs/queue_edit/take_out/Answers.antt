use Rattle.lt_row.proofs.Written.{WritesQueue-removed}
use Rattle.lt_row.proofs.queue_edit.take_out.Goals as goal

pub returns : goal.returns
returns c = λ q xs ys cut. WritesQueue-removed c.args.links.now c.remove.new.self q c.args.node xs ys c.requires.sound cut c.remove.ensures.removes c.remove.ensures.sound
