use Rattle.lt_words.proofs.Draws.{numbers_are_of_draws}
use Rattle.lt_words.proofs.laws.numbers_are_of_draws.Goals as goal

pub returns : goal.returns
returns c = numbers_are_of_draws
