use Rattle.std.proofs.Common.{◌≡◌, List, All}
use Rattle.std.specs.Prelude.{map}
use Rattle.lt_rules.specs.Rules.{Record}
use Rattle.lt_trace_show.specs.declared.step.ShownStep.{ShownStep}
use Rattle.lt_trace_show.specs.Phases.{phase_of}
use Rattle.lt_trace_show.specs.Drawn.{AreDrawnSteps}
use Rattle.lt_trace_show.specs.Bars.{IsBarOf, ShowLanesBelow}
use Rattle.lt_trace_show.proofs.lanes.bars_from.Given as goal

abbrev pub invariant-loop-lane : goal.invariant-loop-lane
invariant-loop-lane l = record {
  bars : (before : Record) (shown : List ShownStep) → AreDrawnSteps before shown l.steps → l.first ≡ map (λ x. phase_of x before) l.lanes → All (IsBarOf l.lanes before shown) l.bars.items;
  all : (before : Record) (shown : List ShownStep) → AreDrawnSteps before shown l.steps → l.first ≡ map (λ x. phase_of x before) l.lanes → ShowLanesBelow l.lanes before shown l.bars.items l.lane;
}
