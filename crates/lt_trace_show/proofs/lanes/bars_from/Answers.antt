use Rattle.std.proofs.Common.{◌≡◌, List, Some, All, get_or, length, slice_get, ◌∙◌, ap}
use Rattle.std.specs.Prelude.{map}
use Rattle.std.proofs.lemmas.List.{get_or-map}
use Rattle.std.proofs.lemmas.List.Elements.{All-append}
use Rattle.std.proofs.lemmas.Option.{slice_get-get_or}
use Rattle.lt_rules.specs.Rules.{Record}
use Rattle.lt_trace_show.specs.declared.step.ShownStep.{ShownStep}
use Rattle.lt_trace_show.specs.declared.timeline.Lane.TheVariants.{Txn}
use Rattle.lt_trace_show.specs.declared.timeline.Phase.TheVariants.{Out}
use Rattle.lt_trace_show.specs.Phases.{phase_of, timeline_of}
use Rattle.lt_trace_show.specs.Drawn.{AreDrawnSteps}
use Rattle.lt_trace_show.specs.Bars.{IsRunIn, IsBarOf, AreShownBelow}
use Rattle.lt_trace_show.proofs.Rows.{bars_are, lanes_more}
use Rattle.lt_trace_show.proofs.lanes.bars_from.Goals as goal

pub loop-lane-preserved : goal.loop-lane-preserved
loop-lane-preserved c =
    let lanes = c.args.lanes.now in
    let first = c.args.first.now in
    let steps = c.args.steps.now in
    let n = c.loop-lane.lane in
    let here = get_or lanes n (Txn 0) in
    let at : slice_get lanes n ≡ Some here = slice_get-get_or lanes n (Txn 0) c.loop-lane-test.true in
    let phases = c.deref.result.now in
    let begins : (before : Record) → first ≡ map (λ l. phase_of l before) lanes → get_or first n Out ≡ phase_of here before = λ before are. ap (λ ps. get_or ps n Out) are ∙ get_or-map (λ l. phase_of l before) lanes n (Txn 0) Out c.loop-lane-test.true in
    let is : (before : Record) (shown : List ShownStep) → AreDrawnSteps before shown steps → first ≡ map (λ l. phase_of l before) lanes → phases ≡ timeline_of here before shown = λ before shown drawn are. c.deref.ensures.value ∙ c.in_ok-timeline.ensures before shown drawn (begins before are) in
    let old = c.loop-lane.bars.items in
    let own = c.deref-in-loop-lane.result.now in
    let runs : All (IsRunIn n phases) own = rw c.deref-in-loop-lane.ensures.value c.in_ok-bars_in.ensures.runs in
    let shown_all : AreShownBelow n phases own (length phases) = rw c.deref-in-loop-lane.ensures.value c.in_ok-bars_in.ensures.all in
    record {
      bars = λ before shown drawn are. rw c.in_ok-extend_from_slice.ensures.items (All-append (IsBarOf lanes before shown) old own (c.loop-lane.invariant.bars before shown drawn are) (bars_are lanes before shown n here phases own at (is before shown drawn are) runs));
      all = λ before shown drawn are. rw c.in_ok-extend_from_slice.ensures.items (lanes_more lanes before shown old own n here phases at (is before shown drawn are) shown_all (c.loop-lane.invariant.all before shown drawn are));
    }
