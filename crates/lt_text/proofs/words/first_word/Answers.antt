use Rattle.lt_text.proofs.Cuts.{slice_split_uncut}
use Rattle.lt_text.proofs.words.first_word.Goals as goal

pub returns-in-None : goal.returns-in-None
returns-in-None c = slice_split_uncut 32 c.args.line.now c.in-None.ensures
