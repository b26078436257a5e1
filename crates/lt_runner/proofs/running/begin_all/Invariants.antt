use Rattle.lt_runner.specs.Turns.{HaveBegun}
use Rattle.lt_runner.proofs.running.begin_all.Given as goal

abbrev pub invariant-loop-seat : goal.invariant-loop-seat
invariant-loop-seat l = HaveBegun l.yielded l.slots.items
