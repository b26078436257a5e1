use Rattle.std.proofs.Common.{◌≤◌, take}
use Rattle.std.specs.List.{AllByRecursion}
use Rattle.lt_runner.specs.Turns.{IsAmong}
use Rattle.lt_runner.proofs.whole.most_passes.Given as goal

abbrev pub invariant-loop-command : goal.invariant-loop-command
invariant-loop-command l = record {
  low : 1 ≤ l.most;
  high : l.most ≤ 64;
  among : AllByRecursion (IsAmong l.most) (take l.command-index l.commands);
}
