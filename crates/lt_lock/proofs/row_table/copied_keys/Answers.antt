use Rattle.std.proofs.lemmas.Grind.{common_steps}
use Rattle.std.proofs.Common.{◌++◌, ◌∙◌, ap, sym, append-nil, arith}
use Rattle.lt_lock.proofs.row_table.copied_keys.Goals as goal

pub returns-clause-copied : goal.returns-clause-copied
returns-clause-copied c =
    sym (append-nil c.loop-key.all.items)
    ∙ ap (λ rest. c.loop-key.all.items ++ rest) (sym c.in-None.ensures.steps.0)
    ∙ c.loop-key.invariant

pub loop-key-preserved : goal.loop-key-preserved
loop-key-preserved c = grind (arith, common_steps)
