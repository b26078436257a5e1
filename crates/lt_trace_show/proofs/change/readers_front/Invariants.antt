use Rattle.std.proofs.Common.{◌≡◌, ◌≤◌, ◌-◌, length, take}
use Rattle.lt_trace_show.proofs.change.readers_front.Given as goal

abbrev pub invariant-loop-front : goal.invariant-loop-front
invariant-loop-front l = record {
  before : l.front ≤ length l.before;
  after : l.front ≤ length l.after;
  same : take l.front l.before ≡ take l.front l.after;
}

abbrev pub decreases-loop-front : goal.decreases-loop-front
decreases-loop-front l = length l.before - l.front
