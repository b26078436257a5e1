use Rattle.lt_words.proofs.Parts.{one_holder_at_each_key}
use Rattle.lt_words.proofs.laws.one_holder_at_each_key.Goals as goal

pub returns : goal.returns
returns c = one_holder_at_each_key c.one_holder.ensures
