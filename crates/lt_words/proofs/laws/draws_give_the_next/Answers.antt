use Rattle.lt_words.proofs.Draws.{draws_give_the_next}
use Rattle.lt_words.proofs.laws.draws_give_the_next.Goals as goal

pub returns : goal.returns
returns c = draws_give_the_next
