use Rattle.lt_words.proofs.Draws.{numbers_are_of_one_pass}
use Rattle.lt_words.proofs.laws.numbers_are_of_one_pass.Goals as goal

pub returns : goal.returns
returns c = numbers_are_of_one_pass
