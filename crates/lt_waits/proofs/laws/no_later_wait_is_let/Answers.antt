use Rattle.lt_waits.proofs.Lost.{no_later_wait_is_let}
use Rattle.lt_waits.proofs.laws.no_later_wait_is_let.Goals as goal

pub returns : goal.returns
returns c = no_later_wait_is_let c.lets_end_waits.ensures c.parts_are_legal.ensures c.prefixes_are_legal.ensures c.main_theorem.ensures
