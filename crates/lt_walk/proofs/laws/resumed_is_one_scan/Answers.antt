use Rattle.lt_walk.proofs.Resumed.{resumed_is_one_scan}
use Rattle.lt_walk.proofs.laws.resumed_is_one_scan.Goals as goal

pub returns : goal.returns
returns c = resumed_is_one_scan
