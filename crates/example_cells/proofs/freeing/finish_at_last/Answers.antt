use Rattle.std.proofs.Common.{subst}
use Rattle.example_cells.proofs.freeing.finish_at_last.Goals as goal

pub finish_then-requires-clause-keeps : goal.finish_then-requires-clause-keeps
finish_then-requires-clause-keeps g c = λ es v a w knows gave.
    c.requires.keeps es v a w knows (record {
      shown = gave.shown;
      shows = gave.shows;
      left = gave.left;
      met = subst (λ f. g.F.FnOnce.post f (gave.shown, tt) (a, (gave.left, tt))) c.loop.invariant.3 gave.met;
      leaves = gave.leaves;
    })
