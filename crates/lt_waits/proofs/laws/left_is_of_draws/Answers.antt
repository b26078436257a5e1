use Rattle.lt_waits.proofs.Latest.{left_is_of_draws}
use Rattle.lt_waits.proofs.laws.left_is_of_draws.Goals as goal

pub returns : goal.returns
returns c = left_is_of_draws
