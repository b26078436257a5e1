use Rattle.std.proofs.Common.{◌≡◌, ◌++◌, take}
use Rattle.std.specs.Prelude.{map}
use Rattle.lt_trace_show.specs.Owners.{ticket_lane}
use Rattle.lt_trace_show.proofs.lanes.push_tickets.Given as goal

abbrev pub invariant-loop-ticket : goal.invariant-loop-ticket
invariant-loop-ticket l = l.lanes.items ≡ l.initial.lanes.items ++ map ticket_lane (take l.ticket-index l.tickets)
