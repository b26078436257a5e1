use Rattle.std.proofs.Common.{rules}
use Rattle.lt_shard.proofs.making.make_step.Goals as goal

pub returns-clause-made : goal.returns-clause-made
returns-clause-made g c = search rules
