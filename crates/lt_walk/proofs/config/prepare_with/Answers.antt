use Rattle.std.proofs.Common.{rules}
use Rattle.lt_walk.proofs.config.prepare_with.Goals as goal

pub invariant_of-result : goal.invariant_of-result
invariant_of-result c = search rules
