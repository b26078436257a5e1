use Rattle.std.proofs.Common.{◌≡◌, ◌≤◌, ◌<◌, ◌-◌, ℕ, length}
use Rattle.std.specs.Prelude.{slice_get}
use Rattle.lt_trace_show.proofs.timeline.run_end.Given as goal

abbrev pub invariant-loop-end : goal.invariant-loop-end
invariant-loop-end l = record {
  after : l.from < l.end;
  within : l.end ≤ length l.phases;
  same : (k : ℕ) → l.from ≤ k → k < l.end → slice_get l.phases k ≡ slice_get l.phases l.from;
}

abbrev pub decreases-loop-end : goal.decreases-loop-end
decreases-loop-end l = length l.phases - l.end
