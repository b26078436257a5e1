use Rattle.lt_words.proofs.Showing.{word_later}
use Rattle.lt_words.proofs.laws.words_rise.Goals as goal

pub returns : goal.returns
returns c = word_later
