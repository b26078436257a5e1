use Rattle.lt_waits.proofs.ToldToWait.{let_was_told_to_wait}
use Rattle.lt_waits.proofs.laws.let_was_told_to_wait.Goals as goal

pub returns : goal.returns
returns c = let_was_told_to_wait c.lets_end_waits.ensures c.parts_are_legal.ensures
