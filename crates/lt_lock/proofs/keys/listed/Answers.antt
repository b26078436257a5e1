use Rattle.std.proofs.Common.{◌++◌, ◌∙◌, ap, sym, append-nil}
use Rattle.lt_lock.proofs.keys.listed.Goals as goal

pub returns : goal.returns
returns c =
    sym (append-nil c.loop-key.all.items)
    ∙ ap (λ rest. c.loop-key.all.items ++ rest) (sym c.in-None.ensures.steps.0)
    ∙ c.loop-key.invariant
