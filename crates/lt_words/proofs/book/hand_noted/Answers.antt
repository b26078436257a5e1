use Rattle.std.proofs.Common.{◌∙◌, ap}
use Rattle.lt_words.proofs.book.hand_noted.Goals as goal

pub returns : goal.returns
returns g c = c.in_default.ensures.none.1 ∙ (c.loop-owed.invariant ∙ ap (λ ls. record c.args.pass.now { wakes = record c.args.pass.now.wakes { lets = ls } }) c.in_default.ensures.none.0)
