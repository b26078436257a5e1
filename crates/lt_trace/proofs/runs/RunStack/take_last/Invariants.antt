use Rattle.std.proofs.Common.{◌≡◌}
use Rattle.lt_trace.proofs.runs.RunStack.take_last.Given as goal

abbrev pub invariant-loop : goal.invariant-loop
invariant-loop g l = l.self.stored ≡ l.initial.self.stored
