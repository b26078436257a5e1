use Rattle.lt_waits.proofs.Lost.{no_wake_up_is_ever_lost}
use Rattle.lt_waits.proofs.laws.no_wake_up_is_ever_lost.Goals as goal

pub returns : goal.returns
returns c = no_wake_up_is_ever_lost c.no_later_wait_is_let.ensures c.no_wake_up_is_lost.ensures
