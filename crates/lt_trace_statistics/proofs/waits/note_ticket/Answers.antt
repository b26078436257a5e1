use Rattle.std.proofs.Common.{refl}
use Rattle.lt_trace_statistics.proofs.ByNumber.{since_is}
use Rattle.lt_trace_statistics.proofs.waits.note_ticket.Goals as goal

pub returns-in_ok-note_wait : goal.returns-in_ok-note_wait
returns-in_ok-note_wait c = λ waits has. rw (← since_is c.args.pending.now c.args.ticket.now waits has, ← c.since_of.ensures, c.in-Some.is) c.in_ok-note_wait.ensures

pub returns-in_default : goal.returns-in_default
returns-in_default c = λ waits has. rw (← since_is c.args.pending.now c.args.ticket.now waits has, ← c.since_of.ensures, c.in_default.is) refl
