use Rattle.lt_waits.proofs.Lost.{shown_always_goes_on}
use Rattle.lt_waits.proofs.laws.shown_always_goes_on.Goals as goal

pub returns : goal.returns
returns c = shown_always_goes_on c.no_later_wait_is_let.ensures c.shown_goes_on.ensures
