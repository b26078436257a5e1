use Rattle.lt_words.proofs.Draws.{numbers_rise}
use Rattle.lt_words.proofs.laws.numbers_rise.Goals as goal

pub returns : goal.returns
returns c = numbers_rise
