-- Which bars and arrows a picture has.
use Rattle.std.specs.Prelude.{ℕ, Bool, true, false, ◌≡◌, ◌≢◌, ◌≤◌, ◌<◌, ◌+◌, ◌&&◌, nat_eq, nat_le, nat_lt, suc, if◌then◌else◌, Some, List, [], ◌∷◌, ◌++◌, length, slice_get, All}
use Rattle.std.specs.List.{list_any}
use Rattle.lt_rules.specs.Rules.{Record}
use Rattle.lt_trace_show.specs.declared.lanes.Bar.{Bar}
use Rattle.lt_trace_show.specs.declared.lanes.Arrow.{Arrow}
use Rattle.lt_trace_show.specs.declared.step.ShownStep.{ShownStep}
use Rattle.lt_trace_show.specs.declared.timeline.Lane.{Lane}
use Rattle.lt_trace_show.specs.declared.timeline.Phase.{Phase}
use Rattle.lt_trace_show.specs.Phases.{timeline_of, is_out}

-- The bar is a longest run of one phase of a lane: it begins at the step that began the phase, or at 0 if the phase was
-- there before the first step. It ends at the step that ended the phase, or after the last one. The phases are those of
-- `timeline_of`, so a phase's index is its step's number.
pub record IsLongestRun (phases : List Phase) (b : Bar) : Type 0 where
  pub shown : is_out b.phase ≡ false
  pub some : b.first < b.end
  pub to_last : b.end ≤ length phases
  pub before : (k : ℕ) → suc k ≡ b.first → slice_get phases k ≢ Some b.phase
  pub during : (k : ℕ) → b.first ≤ k → k < b.end → slice_get phases k ≡ Some b.phase
  pub after : slice_get phases b.end ≢ Some b.phase

-- The bar is such a run in the lane with this index.
pub record IsRunIn (index : ℕ) (phases : List Phase) (b : Bar) : Type 0 where
  pub lane : b.lane ≡ index
  pub run : IsLongestRun phases b

-- The bar is such a run of its lane, if this is the state before these steps.
pub record IsBarOf (lanes : List Lane) (before : Record) (steps : List ShownStep) (b : Bar) : Type 0 where
  pub lane : b.lane < length lanes
  pub run : (l : Lane) → slice_get lanes b.lane ≡ Some l → IsLongestRun (timeline_of l before steps) b

-- the bars and this one, unless its phase is `Out`
abbrev pub with_run : List Bar → Bar → List Bar
with_run bars b = if is_out b.phase then bars else bars ++ b ∷ []

-- whether the bar is in the lane with this index, and has the phase with index k
abbrev pub covers : ℕ → ℕ → Bar → Bool
covers lane k b = nat_eq b.lane lane && (nat_le b.first k && nat_lt k b.end)

-- Each phase with an index below `end` is within a bar, unless it is `Out`.
abbrev pub AreShownBelow : ℕ → List Phase → List Bar → ℕ → Type 0
AreShownBelow lane phases bars end =
    (k : ℕ) (p : Phase) → k < end → slice_get phases k ≡ Some p → is_out p ≡ false →
    list_any (covers lane k) bars ≡ true

-- Each phase of each of the lanes with an index below `end` is within a bar of its lane, unless it is `Out`.
abbrev pub ShowLanesBelow : List Lane → Record → List ShownStep → List Bar → ℕ → Type 0
ShowLanesBelow lanes before steps bars end =
    (i : ℕ) (l : Lane) → i < end → slice_get lanes i ≡ Some l →
    AreShownBelow i (timeline_of l before steps) bars (length steps + 1)

-- The arrow lies within this many steps and lanes.
pub record IsArrowWithin (steps lanes : ℕ) (a : Arrow) : Type 0 where
  pub first : 1 ≤ a.step
  pub last : a.step ≤ steps
  pub from : a.from < lanes
  pub to : a.to < lanes

-- If all old arrows lie within some steps, and this step is one of them, then all new arrows lie within them.
abbrev pub KeepsArrowsWithin : ℕ → ℕ → List Arrow → List Arrow → Type 0
KeepsArrowsWithin lanes step old new =
    (steps : ℕ) → step ≤ steps → All (IsArrowWithin steps lanes) old → All (IsArrowWithin steps lanes) new
