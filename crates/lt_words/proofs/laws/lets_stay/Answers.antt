use Rattle.lt_words.proofs.Histories.{let_later}
use Rattle.lt_words.proofs.laws.lets_stay.Goals as goal

pub returns : goal.returns
returns c = let_later
