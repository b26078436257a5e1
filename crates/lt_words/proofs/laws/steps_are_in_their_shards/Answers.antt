use Rattle.lt_words.proofs.Parts.{steps_are_in_their_shards}
use Rattle.lt_words.proofs.laws.steps_are_in_their_shards.Goals as goal

pub returns : goal.returns
returns c = steps_are_in_their_shards
