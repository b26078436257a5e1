use Rattle.std.proofs.Common.{◌∙◌, ap, sym}
use Rattle.lt_trace_show.specs.Phases.{phase_of, request_phase}
use Rattle.lt_trace_show.proofs.Followed.{follows}
use Rattle.lt_trace_show.proofs.timeline.phase_after.Goals as goal

pub returns-in-Request : goal.returns-in-Request
returns-in-Request c = λ before s is at.
    let n = c.in-Request.number in
    let lane = c.in-Request.is in
    c.unwrap_or.ensures ∙ follows c.changed_phase.result c.args.before (request_phase n s.state) (request_phase n before) (c.changed_phase.ensures before s.state is.change) (at ∙ ap (λ l. phase_of l before) lane) ∙ sym (ap (λ l. phase_of l s.state) lane)
