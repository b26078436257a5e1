use Rattle.std.proofs.Common.{rules}
use Rattle.lt_trace_statistics.proofs.ByNumber.{ticket_dropped, ticket_absent}
use Rattle.lt_trace_statistics.proofs.waits.drop_ticket.Goals as goal

pub returns-then-is_some : goal.returns-then-is_some
returns-then-is_some c = ticket_dropped c.args.pending.now c.remove.new.self c.args.ticket.now (search rules) (search rules)

pub returns-else-is_some : goal.returns-else-is_some
returns-else-is_some c = ticket_absent c.args.pending.now c.args.ticket.now (search rules)
