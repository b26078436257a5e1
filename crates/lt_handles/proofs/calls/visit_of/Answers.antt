use Rattle.std.proofs.Common.{rules}
use Rattle.lt_handles.proofs.calls.visit_of.Goals as goal

pub returns-clause-call : goal.returns-clause-call
returns-clause-call c = search rules
