use Rattle.std.proofs.Common.{◌≡◌, drop}
use Rattle.serde_json.specs.View.{items_view}
use Rattle.lt_trace.specs.Json.{ticket_bytes, after_bytes}
use Rattle.lt_trace.proofs.object.put_tickets.Given as goal

-- What is appended, followed by the bytes of the tickets that are left.
abbrev pub invariant-loop-value : goal.invariant-loop-value
invariant-loop-value l = after_bytes l.out.items (ticket_bytes (items_view (drop l.value-index l.tickets))) ≡ after_bytes l.initial.out.items (ticket_bytes (items_view l.tickets))
