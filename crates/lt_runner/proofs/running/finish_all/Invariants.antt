use Rattle.std.proofs.Common.{◌≡◌}
use Rattle.lt_runner.specs.Turns.{somes}
use Rattle.lt_runner.proofs.running.finish_all.Given as goal

abbrev pub invariant-loop-slot : goal.invariant-loop-slot
invariant-loop-slot l = l.works.items ≡ somes l.yielded
