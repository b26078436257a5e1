use Rattle.lt_waits.proofs.Example.{some_poll_hears}
use Rattle.lt_waits.proofs.laws.some_poll_hears.Goals as goal

pub returns : goal.returns
returns c = some_poll_hears
