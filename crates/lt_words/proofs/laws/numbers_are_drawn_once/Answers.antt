use Rattle.lt_words.proofs.Draws.{numbers_are_drawn_once}
use Rattle.lt_words.proofs.laws.numbers_are_drawn_once.Goals as goal

pub returns : goal.returns
returns c = numbers_are_drawn_once
