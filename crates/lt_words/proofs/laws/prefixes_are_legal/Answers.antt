use Rattle.lt_words.proofs.Parts.{prefixes_are_legal}
use Rattle.lt_words.proofs.laws.prefixes_are_legal.Goals as goal

pub returns : goal.returns
returns c = prefixes_are_legal
