-- How the steps that are drawn stand for steps of a key with the states after them.
use Rattle.std.specs.Prelude.{ℕ, ◌≡◌, ◌↔◌, IsTrue, Option, List, [], ◌∷◌, MatchOption}
use Rattle.lt_rules.specs.Rules.{Record}
use Rattle.lt_trace_show.specs.declared.drawn.DrawnStep.{DrawnStep}
use Rattle.lt_trace_show.specs.declared.step.ShownStep.{ShownStep}
use Rattle.lt_trace_show.specs.declared.timeline.Lane.{Lane}
use Rattle.lt_trace_show.specs.declared.timeline.Phase.{Phase}
use Rattle.lt_trace_show.specs.Phases.{request_phase, phase_of, timeline_of}
use Rattle.lt_trace_show.specs.Change.{IsChange}

-- This is kept of the step, if the state before it is this one.
pub record IsDrawnStep (before : Record) (s : ShownStep) (d : DrawnStep) : Type 0 where
  pub index : d.index ≡ s.index
  pub pass : d.pass ≡ s.pass
  pub call : d.call ≡ s.call
  pub reply : d.reply ≡ s.reply
  pub tickets : d.tickets.items ≡ s.tickets.items
  pub holder : d.holder ≡ s.state.holder
  pub change : IsChange before s.state d.changed.items d.phases.items
  pub unchanged : IsTrue d.changes_nothing ↔ (before ≡ s.state)

-- This is kept of these steps, if the state before the first of them is this one.
abbrev pub AreDrawnSteps : Record → List ShownStep → List DrawnStep → Type 0
AreDrawnSteps before [] [] = Unit {0}
AreDrawnSteps before [] (d ∷ ds) = ⊥
AreDrawnSteps before (s ∷ ss) [] = ⊥
AreDrawnSteps before (s ∷ ss) (d ∷ ds) = IsDrawnStep before s d × AreDrawnSteps s.state ss ds

-- the state after these steps
abbrev pub state_after : Record → List ShownStep → Record
state_after before [] = before
state_after before (s ∷ ss) = state_after s.state ss

-- The request has this phase after the step, or the one that it had before it if this is none.
abbrev pub HasPhaseAfter : DrawnStep → ℕ → Option Phase → Type 0
HasPhaseAfter d number p =
    (before after : Record) → IsChange before after d.changed.items d.phases.items →
    MatchOption p (request_phase number after ≡ request_phase number before) (λ q. q ≡ request_phase number after)

-- If the first is the lane's phase before the step, then the other is the one after it.
abbrev pub LeadsPhase : Lane → Phase → DrawnStep → Phase → Type 0
LeadsPhase lane p d q = (before : Record) (s : ShownStep) → IsDrawnStep before s d → p ≡ phase_of lane before → q ≡ phase_of lane s.state

-- If the first phase is the lane's before the steps, then these are its phases.
abbrev pub IsTimeline : Lane → Phase → List DrawnStep → List Phase → Type 0
IsTimeline lane first drawn phases =
    (before : Record) (shown : List ShownStep) → AreDrawnSteps before shown drawn → first ≡ phase_of lane before →
    phases ≡ timeline_of lane before shown
