use Rattle.lt_words.proofs.Parts.{parts_are_legal}
use Rattle.lt_words.proofs.laws.parts_are_legal.Goals as goal

pub returns : goal.returns
returns c = parts_are_legal
