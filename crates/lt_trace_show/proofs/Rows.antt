-- The bars of all lanes.
use Rattle.std.proofs.Common.{◌≡◌, ◌<◌, ℕ, ◌+◌, Bool, true, false, nat_lt, Some, List, ◌++◌, All, length, slice_get, get_or, arith, refl, subst}
use Rattle.std.specs.List.{list_any}
use Rattle.std.proofs.lemmas.Grind.{common_steps}
use Rattle.std.proofs.lemmas.Bool.Decides.{nat_tests}
use Rattle.std.proofs.lemmas.List.Folds.{list_any-append}
use Rattle.std.proofs.lemmas.List.{length-map}
use Rattle.std.proofs.lemmas.Option.{slice_get_within}
use Rattle.lt_rules.specs.Rules.{Record}
use Rattle.lt_trace_show.specs.declared.lanes.Bar.{Bar}
use Rattle.lt_trace_show.specs.declared.step.ShownStep.{ShownStep}
use Rattle.lt_trace_show.specs.declared.timeline.Lane.{Lane}
use Rattle.lt_trace_show.specs.declared.timeline.Phase.{Phase}
use Rattle.lt_trace_show.specs.Phases.{timeline_of, is_out}
use Rattle.lt_trace_show.specs.Bars.{IsRunIn, IsBarOf, covers, AreShownBelow, ShowLanesBelow}

bar_is : (lanes : List Lane) (before : Record) (steps : List ShownStep) (i : ℕ) (l : Lane) (phases : List Phase) (b : Bar) → slice_get lanes i ≡ Some l → phases ≡ timeline_of l before steps → IsRunIn i phases b → IsBarOf lanes before steps b
bar_is lanes before steps i l phases b at is r = record {
  lane = rw r.lane (slice_get_within lanes i l at);
  run = λ other there.
      let same : other ≡ l = cc in
      rw same (rw (← is) r.run);
}

-- the bars in one lane are bars of the picture
pub bars_are : (lanes : List Lane) (before : Record) (steps : List ShownStep) (i : ℕ) (l : Lane) (phases : List Phase) (bars : List Bar) → slice_get lanes i ≡ Some l → phases ≡ timeline_of l before steps → All (IsRunIn i phases) bars → All (IsBarOf lanes before steps) bars
bars_are lanes before steps i l phases bars at is all = λ k d low. bar_is lanes before steps i l phases (get_or bars k d) at is (all k d low)

length_of : (l : Lane) (before : Record) (steps : List ShownStep) → length (timeline_of l before steps) ≡ length steps + 1
length_of l before steps = simp length-map (omega arith)

lanes_if : (t : Bool) (lanes : List Lane) (before : Record) (steps : List ShownStep) (old own : List Bar) (n : ℕ) (here : Lane) (phases : List Phase) → slice_get lanes n ≡ Some here → phases ≡ timeline_of here before steps → AreShownBelow n phases own (length phases) → ShowLanesBelow lanes before steps old n → (i : ℕ) (l : Lane) → nat_lt i n ≡ t → i < n + 1 → slice_get lanes i ≡ Some l → (k : ℕ) (p : Phase) → k < length steps + 1 → slice_get (timeline_of l before steps) k ≡ Some p → is_out p ≡ false → list_any (covers i k) (old ++ own) ≡ true
lanes_if true lanes before steps old own n here phases at is shown all i l lower low there k p klow kat out =
    let below : i < n = grind (arith, nat_tests) in
    rw (list_any-append, all i l below there k p klow kat out)
lanes_if false lanes before steps old own n here phases at is shown all i l lower low there k p klow kat out =
    let same : i ≡ n = grind (arith, nat_tests) in
    let lane : l ≡ here = cc in
    let long : k < length phases = rw (is, length_of here before steps) klow in
    let phase : slice_get phases k ≡ Some p = rw is (subst (λ x. slice_get (timeline_of x before steps) k ≡ Some p) lane kat) in
    let own_shown : list_any (covers n k) own ≡ true = shown k p long phase out in
    rw (same, list_any-append) (grind (arith, common_steps, own_shown))

-- one more lane whose bars are all there
pub lanes_more : (lanes : List Lane) (before : Record) (steps : List ShownStep) (old own : List Bar) (n : ℕ) (here : Lane) (phases : List Phase) → slice_get lanes n ≡ Some here → phases ≡ timeline_of here before steps → AreShownBelow n phases own (length phases) → ShowLanesBelow lanes before steps old n → ShowLanesBelow lanes before steps (old ++ own) (n + 1)
lanes_more lanes before steps old own n here phases at is shown all = λ i l low there k p klow kat out. lanes_if (nat_lt i n) lanes before steps old own n here phases at is shown all i l refl low there k p klow kat out
