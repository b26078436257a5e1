use Rattle.std.proofs.Common.{rules}
use Rattle.lt_shard.proofs.holding.is_recorded.Goals as goal

pub returns-in-Unrecorded : goal.returns-in-Unrecorded
returns-in-Unrecorded c = search rules
