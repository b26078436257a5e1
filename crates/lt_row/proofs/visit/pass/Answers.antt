use Rattle.lt_row.proofs.Waits.{went_rewritten}
use Rattle.lt_row.proofs.visit.pass.Goals as goal

pub returns : goal.returns
returns c = went_rewritten c.args.links.now c.stop_reading.new.links c.args.row.now _ _ c.stop_reading.ensures
