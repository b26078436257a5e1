-- What a range keeps of the steps that were given to it.
use Rattle.std.specs.Prelude.{◌≡◌, List}
use Rattle.std.specs.Option.{unwrap_or}
use Rattle.lt_trace_show.specs.declared.drawn.ShownRange.{ShownRange}
use Rattle.lt_trace_show.specs.declared.step.ShownStep.{ShownStep}
use Rattle.lt_trace_show.specs.Drawn.{AreDrawnSteps, state_after}

-- The range has these steps.
pub record IsRangeOf (shown : List ShownStep) (r : ShownRange) : Type 0 where
  pub drawn : AreDrawnSteps r.before shown r.steps.items
  pub latest : unwrap_or r.latest r.before ≡ state_after r.before shown
