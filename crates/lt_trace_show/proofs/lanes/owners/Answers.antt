use Rattle.std.proofs.Common.{List, length, subst}
use Rattle.std.proofs.lemmas.Result.{IfOk-weaker}
use Rattle.lt_trace_show.specs.declared.timeline.Lane.{Lane}
use Rattle.lt_trace_show.specs.Owners.{HaveLanes, HaveLanesOf}
use Rattle.lt_trace_show.proofs.Named.{has_all_sorted}
use Rattle.lt_trace_show.proofs.lanes.owners.Goals as goal

pub returns : goal.returns
returns c =
    let sorted = c.sort_unstable.new.self.items in
    IfOk-weaker c.without_repeats.result _ _ (λ own have.
    subst (HaveLanesOf own.items) c.in_ok-lanes.ensures
    (has_all_sorted own.items sorted c.in_ok-lanes.lanes.items c.sort_unstable.ensures.permutation
    (subst (λ (t : List Lane). HaveLanes own.items t (length t)) c.deref.ensures.value have))) c.without_repeats.ensures
