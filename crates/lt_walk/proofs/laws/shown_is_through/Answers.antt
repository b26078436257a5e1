use Rattle.lt_walk.proofs.Waking.{shown_is_through}
use Rattle.lt_walk.proofs.laws.shown_is_through.Goals as goal

pub returns : goal.returns
returns c = shown_is_through
