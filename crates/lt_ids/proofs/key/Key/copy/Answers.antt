use Rattle.std.proofs.Common.{rules}
use Rattle.lt_ids.proofs.key.Key.copy.Goals as goal

pub returns-clause-same : goal.returns-clause-same
returns-clause-same c = search rules
