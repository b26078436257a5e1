use Rattle.std.proofs.Common.{◌≡◌, fold, take, List}
use Rattle.lt_trace_statistics.specs.declared.waits.OpenWait.{OpenWait}
use Rattle.lt_trace_statistics.specs.Findings.{with_ended}
use Rattle.lt_trace_statistics.specs.OpenWaits.{HasWaits}
use Rattle.lt_trace_statistics.proofs.waits.note_ended.Given as goal

abbrev pub invariant-loop-ticket : goal.invariant-loop-ticket
invariant-loop-ticket l =
    (waits : List OpenWait) → HasWaits l.pending waits → l.longest ≡ fold (with_ended waits l.key l.index) l.initial.longest (take l.ticket-index l.tickets)
