-- The longest runs of one phase, and that bars show them all.
use Rattle.std.proofs.Common.{◌≡◌, ◌≢◌, ◌≤◌, ◌<◌, ℕ, suc, Bool, true, false, nat_lt, if◌then◌else◌, Some, List, [], ◌∷◌, ◌++◌, All, length, slice_get, arith, refl, sym, ◌∙◌}
use Rattle.std.specs.List.{list_any}
use Rattle.std.proofs.lemmas.Grind.{common_steps}
use Rattle.std.proofs.lemmas.Bool.Decides.{nat_tests}
use Rattle.std.proofs.lemmas.List.Elements.{All-append, All-cons, All-nil}
use Rattle.std.proofs.lemmas.List.Folds.{list_any-append}
use Rattle.lt_trace_show.specs.declared.lanes.Bar.{Bar}
use Rattle.lt_trace_show.specs.declared.timeline.Phase.{Phase}
use Rattle.lt_trace_show.specs.Phases.{is_out}
use Rattle.lt_trace_show.specs.Bars.{IsRunIn, with_run, covers, AreShownBelow}

-- what is known of a run that begins at an index and ends before another
pub record RunsTo (phases : List Phase) (from end : ℕ) (p : Phase) : Type 0 where
  pub at : slice_get phases from ≡ Some p
  pub before : (k : ℕ) → suc k ≡ from → slice_get phases k ≢ slice_get phases from
  pub some : from < end
  pub within : end ≤ length phases
  pub same : (k : ℕ) → from ≤ k → k < end → slice_get phases k ≡ slice_get phases from
  pub other : slice_get phases end ≢ slice_get phases from

pub bar_of : ℕ → Phase → ℕ → ℕ → Bar
bar_of lane p from end = record { lane = lane; phase = p; first = from; end = end }

run_of : (lane : ℕ) (phases : List Phase) (from end : ℕ) (p : Phase) → RunsTo phases from end p → is_out p ≡ false → IsRunIn lane phases (record { lane = lane; phase = p; first = from; end = end })
run_of lane phases from end p r shown = record {
  lane = refl;
  run = record {
    shown = shown;
    some = r.some;
    to_last = r.within;
    before = λ k next is. r.before k next (is ∙ sym r.at);
    during = λ k low high. r.same k low high ∙ r.at;
    after = λ is. r.other (is ∙ sym r.at);
  };
}

-- the bars with the one of this run
runs_if : (t : Bool) (lane : ℕ) (phases : List Phase) (from end : ℕ) (p : Phase) (bars : List Bar) → is_out p ≡ t → RunsTo phases from end p → All (IsRunIn lane phases) bars → All (IsRunIn lane phases) (if t then bars else bars ++ (record { lane = lane; phase = p; first = from; end = end }) ∷ [])
runs_if true lane phases from end p bars is r all = all
runs_if false lane phases from end p bars is r all =
    let own = run_of lane phases from end p r is in
    All-append (IsRunIn lane phases) bars _ all (All-cons (IsRunIn lane phases) _ [] own (All-nil (IsRunIn lane phases)))

pub runs_more : (lane : ℕ) (phases : List Phase) (from end : ℕ) (p : Phase) (bars : List Bar) → RunsTo phases from end p → All (IsRunIn lane phases) bars → All (IsRunIn lane phases) (with_run bars (record { lane = lane; phase = p; first = from; end = end }))
runs_more lane phases from end p bars r all = runs_if (is_out p) lane phases from end p bars refl r all

-- where a run ends, another may begin
pub boundary : (phases : List Phase) (from end : ℕ) (p : Phase) → RunsTo phases from end p → (k : ℕ) → suc k ≡ end → slice_get phases k ≢ slice_get phases end
boundary phases from end p r k next is =
    let run = r.some in
    let low : from ≤ k = omega arith in
    let high : k < end = omega arith in
    r.other (sym is ∙ r.same k low high)

covered : (lane from end k : ℕ) (p : Phase) → from ≤ k → k < end → covers lane k (record { lane = lane; phase = p; first = from; end = end }) ≡ true
covered lane from end k p low high = grind (arith, nat_tests)

shown_if : (t : Bool) (lane : ℕ) (phases : List Phase) (from end : ℕ) (p : Phase) (bars : List Bar) → is_out p ≡ t → RunsTo phases from end p → AreShownBelow lane phases bars from → (below : Bool) (k : ℕ) (q : Phase) → nat_lt k from ≡ below → k < end → slice_get phases k ≡ Some q → is_out q ≡ false → list_any (covers lane k) (if t then bars else bars ++ (record { lane = lane; phase = p; first = from; end = end }) ∷ []) ≡ true
shown_if true lane phases from end p bars is r all true k q low high at shown =
    let lower : k < from = grind (arith, nat_tests) in
    all k q lower at shown
shown_if true lane phases from end p bars is r all false k q low high at shown =
    let higher : from ≤ k = grind (arith, nat_tests) in
    let run = r.same k higher high ∙ r.at in
    let same : q ≡ p = cc in
    let clash : is_out p ≡ false = rw (← same) shown in
    cc
shown_if false lane phases from end p bars is r all true k q low high at shown =
    let lower : k < from = grind (arith, nat_tests) in
    rw (list_any-append, all k q lower at shown)
shown_if false lane phases from end p bars is r all false k q low high at shown =
    let higher : from ≤ k = grind (arith, nat_tests) in
    let own = covered lane from end k p higher high in
    rw list_any-append (grind (arith, common_steps, own))

pub shown_more : (lane : ℕ) (phases : List Phase) (from end : ℕ) (p : Phase) (bars : List Bar) → RunsTo phases from end p → AreShownBelow lane phases bars from → AreShownBelow lane phases (with_run bars (record { lane = lane; phase = p; first = from; end = end })) end
shown_more lane phases from end p bars r all = λ k q high at shown. shown_if (is_out p) lane phases from end p bars refl r all (nat_lt k from) k q refl high at shown
