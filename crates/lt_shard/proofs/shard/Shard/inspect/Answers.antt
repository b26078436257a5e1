use Rattle.std.proofs.Common.{rules}
use Rattle.lt_shard.proofs.shard.Shard.inspect.Goals as goal

pub returns-clause-state : goal.returns-clause-state
returns-clause-state g c = search rules
