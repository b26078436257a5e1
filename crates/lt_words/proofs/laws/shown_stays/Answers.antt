use Rattle.lt_words.proofs.Showing.{shown_later}
use Rattle.lt_words.proofs.laws.shown_stays.Goals as goal

pub returns : goal.returns
returns c = shown_later
