use Rattle.lt_waits.proofs.Latest.{no_wait_is_told_without_request}
use Rattle.lt_waits.proofs.laws.no_wait_is_told_without_request.Goals as goal

pub returns : goal.returns
returns c = no_wait_is_told_without_request
