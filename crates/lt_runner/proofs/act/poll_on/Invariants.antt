use Rattle.std.proofs.Common.{◌-◌}
use Rattle.lt_runner.specs.Execution.{Polls}
use Rattle.lt_runner.proofs.act.poll_on.Given as goal

abbrev pub invariant-loop-polled : goal.invariant-loop-polled
invariant-loop-polled g l = Polls l.fn.guard l.found l.guard

abbrev pub decreases-loop-polled : goal.decreases-loop-polled
decreases-loop-polled g l = l.polls - l.polled
