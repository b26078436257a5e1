use Rattle.lt_tenure.proofs.Held.{taken_was_free}
use Rattle.lt_tenure.proofs.laws.taken_was_free.Goals as goal

pub returns : goal.returns
returns c = taken_was_free
