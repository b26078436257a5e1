use Rattle.std.proofs.Common.{take}
use Rattle.lt_trace_waits.specs.Waits.{LeadTo}
use Rattle.lt_trace_waits.specs.Judged.{wait_in}
use Rattle.lt_trace_waits.proofs.judge.make_moves.Given as goal

abbrev pub invariant-loop-step : goal.invariant-loop-step
invariant-loop-step l = LeadTo l.line (wait_in l.initial.waits) (take l.step-index l.moves) (wait_in l.waits)
