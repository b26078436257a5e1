use Rattle.std.proofs.Common.{rules}
use Rattle.lt_ids.proofs.ticket.Ticket.new.Goals as goal

pub invariant_of-result : goal.invariant_of-result
invariant_of-result c = search rules

pub returns-clause-value : goal.returns-clause-value
returns-clause-value c = search rules
