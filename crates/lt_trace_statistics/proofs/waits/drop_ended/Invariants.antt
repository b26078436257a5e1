use Rattle.std.proofs.Common.{take}
use Rattle.lt_trace_statistics.specs.Findings.{without_ended}
use Rattle.lt_trace_statistics.specs.OpenWaits.{ChangesWaits}
use Rattle.lt_trace_statistics.proofs.waits.drop_ended.Given as goal

abbrev pub invariant-loop-ticket : goal.invariant-loop-ticket
invariant-loop-ticket l = ChangesWaits (without_ended (take l.ticket-index l.tickets)) l.initial.pending l.pending
