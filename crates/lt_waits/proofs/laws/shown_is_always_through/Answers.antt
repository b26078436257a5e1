use Rattle.lt_waits.proofs.Lost.{shown_is_always_through}
use Rattle.lt_waits.proofs.laws.shown_is_always_through.Goals as goal

pub returns : goal.returns
returns c = shown_is_always_through c.no_later_wait_is_let.ensures c.shown_is_through.ensures
