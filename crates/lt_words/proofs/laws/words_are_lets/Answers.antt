use Rattle.lt_words.proofs.Showing.{status_is}
use Rattle.lt_words.proofs.laws.words_are_lets.Goals as goal

pub returns : goal.returns
returns c = status_is
