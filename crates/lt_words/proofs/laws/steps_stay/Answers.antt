use Rattle.lt_words.proofs.Parts.{steps_stay}
use Rattle.lt_words.proofs.laws.steps_stay.Goals as goal

pub returns : goal.returns
returns c = steps_stay
