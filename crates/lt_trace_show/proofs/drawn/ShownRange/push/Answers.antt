use Rattle.std.proofs.Common.{subst, sym, ◌∙◌}
use Rattle.lt_trace_show.specs.Drawn.{IsDrawnStep}
use Rattle.lt_trace_show.proofs.Standing.{drawn_more, state_more}
use Rattle.lt_trace_show.proofs.drawn.ShownRange.push.Goals as goal

pub returns : goal.returns
returns c = λ shown r.
    let before = c.args.self.now.before in
    let drawn = c.in_ok-drawn.drawn in
    let own = subst (λ s. IsDrawnStep s c.args.step drawn) (c.latest.ensures ∙ r.latest) c.in_ok-drawn.ensures in
    record {
      drawn = rw c.in_ok-push.ensures.items (drawn_more before shown c.args.self.now.steps.items c.args.step drawn r.drawn own);
      latest = sym (state_more before shown c.args.step);
    }
