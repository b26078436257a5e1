use Rattle.std.proofs.Common.{◌<◌, ◌≤◌}
use Rattle.lt_schedule_tests.proofs.schedules.schedule.random_index.Given as goal

abbrev pub invariant-loop : goal.invariant-loop
invariant-loop l = record {
  some : 0 < l.limit;
  few : l.limit ≤ 5;
}
