use Rattle.lt_words.proofs.Draws.{draws_stay}
use Rattle.lt_words.proofs.laws.draws_stay.Goals as goal

pub returns : goal.returns
returns c = draws_stay
