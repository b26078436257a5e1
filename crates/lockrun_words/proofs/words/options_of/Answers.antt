use Rattle.std.proofs.Common.{rules}
use Rattle.lockrun_words.proofs.words.options_of.Goals as goal

pub joined-requires-clause-shards : goal.joined-requires-clause-shards
joined-requires-clause-shards c = search rules
