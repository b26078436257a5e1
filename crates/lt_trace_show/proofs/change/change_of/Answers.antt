use Rattle.std.proofs.Common.{◌∙◌, ap}
use Rattle.std.specs.Prelude.{map}
use Rattle.lt_trace_show.specs.Phases.{request_phase}
use Rattle.lt_trace_show.proofs.Numbers.{all_kept, is_change}
use Rattle.lt_trace_show.proofs.change.change_of.Goals as goal

pub returns : goal.returns
returns c =
    let before = c.args.before.now in
    let after = c.args.after.now in
    let numbers = c.in_order-numbers.result.items in
    is_change before after numbers c.in_ok-phases.phases.items c.in_order-numbers.ensures.rises
    (all_kept before after _ numbers c.in_order-numbers.ensures.kept c.in_ok-changed_numbers.ensures)
    (c.in_ok-phases.ensures ∙ ap (map (λ n. request_phase n after)) c.deref.ensures.value)
