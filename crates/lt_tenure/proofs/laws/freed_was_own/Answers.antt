use Rattle.lt_tenure.proofs.Held.{freed_was_own}
use Rattle.lt_tenure.proofs.laws.freed_was_own.Goals as goal

pub returns : goal.returns
returns c = freed_was_own
