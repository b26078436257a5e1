use Rattle.std.proofs.Common.{◌≡◌, ◌≤◌, ◌-◌, length, drop}
use Rattle.lt_trace_show.proofs.change.readers_back.Given as goal

abbrev pub invariant-loop-back : goal.invariant-loop-back
invariant-loop-back l = record {
  most : l.back ≤ l.most;
  same : drop (length l.before - l.back) l.before ≡ drop (length l.after - l.back) l.after;
}

abbrev pub decreases-loop-back : goal.decreases-loop-back
decreases-loop-back l = l.most - l.back
