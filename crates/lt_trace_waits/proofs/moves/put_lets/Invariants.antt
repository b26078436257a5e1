use Rattle.std.proofs.Common.{◌≡◌, ◌++◌, map, take}
use Rattle.lt_trace_waits.specs.declared.open_wait.MoveKind.TheVariants.{Lets}
use Rattle.lt_trace_waits.specs.Moves.{ticket_move}
use Rattle.lt_trace_waits.proofs.moves.put_lets.Given as goal

abbrev pub invariant-loop-ticket : goal.invariant-loop-ticket
invariant-loop-ticket l = l.moves.items ≡ l.initial.moves.items ++ map (ticket_move Lets) (take l.ticket-index l.tickets)
