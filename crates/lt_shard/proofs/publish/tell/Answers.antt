use Rattle.std.proofs.Common.{rules}
use Rattle.lt_shard.proofs.publish.tell.Goals as goal

pub returns-clause-told : goal.returns-clause-told
returns-clause-told c = search rules
