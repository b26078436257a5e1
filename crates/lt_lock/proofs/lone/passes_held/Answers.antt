use Rattle.std.proofs.Common.{rules}
use Rattle.lt_lock.proofs.lone.passes_held.Goals as goal

pub returns-else-is_of : goal.returns-else-is_of
returns-else-is_of c = search rules
