use Rattle.lt_waits.proofs.Latest.{entered_is_in_latest_wait}
use Rattle.lt_waits.proofs.laws.entered_is_in_latest_wait.Goals as goal

pub returns : goal.returns
returns c = entered_is_in_latest_wait
