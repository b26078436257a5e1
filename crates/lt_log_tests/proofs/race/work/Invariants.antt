use Rattle.std.proofs.Common.{◌≡◌}
use Rattle.lt_log_tests.proofs.race.work.Given as goal

abbrev pub invariant-loop : goal.invariant-loop
invariant-loop g l = l.seat.pass.of ≡ l.initial.seat.pass.of

abbrev pub invariant-loop-k : goal.invariant-loop-k
invariant-loop-k g l = record {
  of : l.seat.pass.of ≡ l.fn.seat.pass.of;
}
