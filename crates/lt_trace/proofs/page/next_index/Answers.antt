use Rattle.std.proofs.Common.{rules}
use Rattle.lt_trace.proofs.page.next_index.Goals as goal

pub returns-else-eq-clause-some : goal.returns-else-eq-clause-some
returns-else-eq-clause-some c = search rules
