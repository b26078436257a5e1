use Rattle.std.proofs.Common.{◌≡◌, ◌≢◌, ◌≤◌, ◌-◌, ℕ, suc, All, length, slice_get}
use Rattle.lt_trace_show.specs.Bars.{IsRunIn, AreShownBelow}
use Rattle.lt_trace_show.proofs.lanes.bars_in.Given as goal

abbrev pub invariant-loop-from : goal.invariant-loop-from
invariant-loop-from l = record {
  within : l.from ≤ length l.phases;
  before : (k : ℕ) → suc k ≡ l.from → slice_get l.phases k ≢ slice_get l.phases l.from;
  runs : All (IsRunIn l.lane l.phases) l.bars.items;
  all : AreShownBelow l.lane l.phases l.bars.items l.from;
}

abbrev pub decreases-loop-from : goal.decreases-loop-from
decreases-loop-from l = length l.phases - l.from
