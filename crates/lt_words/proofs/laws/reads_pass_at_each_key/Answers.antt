use Rattle.lt_words.proofs.Parts.{reads_pass_at_each_key}
use Rattle.lt_words.proofs.laws.reads_pass_at_each_key.Goals as goal

pub returns : goal.returns
returns c = reads_pass_at_each_key c.reads_pass.ensures
