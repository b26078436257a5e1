use Rattle.lt_waits.proofs.Latest.{latest_wait_stays_latest}
use Rattle.lt_waits.proofs.laws.latest_wait_stays_latest.Goals as goal

pub returns : goal.returns
returns c = latest_wait_stays_latest
