use Rattle.std.proofs.Common.{List, [], ◌∷◌, ◌++◌, sym, ap, ◌∙◌}
use Rattle.lt_runner.specs.declared.outcome.Work.{Work}
use Rattle.lt_runner.proofs.Slots.{somes_none, somes_some}
use Rattle.lt_runner.proofs.running.finish_all.Goals as goal

pub loop-slot-preserved-in-Ok-1 : goal.loop-slot-preserved-in-Ok-1
loop-slot-preserved-in-Ok-1 c = c.in-Ok.ensures.items ∙ (ap (λ (ws : List Work). ws ++ c.in-Some-slot.work ∷ []) c.loop-slot.invariant ∙ sym (somes_some c.loop-slot.yielded c.in-Some.slot c.in-Some-slot.work c.in-Some-slot.is))

pub loop-slot-preserved : goal.loop-slot-preserved
loop-slot-preserved c = c.loop-slot.invariant ∙ sym (somes_none c.loop-slot.yielded c.in-Some.slot c.in_default.is)
