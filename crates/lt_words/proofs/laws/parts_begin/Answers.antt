use Rattle.lt_words.proofs.Histories.{part_prefix}
use Rattle.lt_words.proofs.laws.parts_begin.Goals as goal

pub returns : goal.returns
returns c = part_prefix
