use Rattle.std.proofs.Common.{rules}
use Rattle.std.proofs.lemmas.Slice.Eq.{slice_eq-Decides}
use Rattle.lt_trace_show.proofs.step.are_same_readers.Goals as goal

pub returns : goal.returns
returns c = slice_eq-Decides (λ a b. search rules) c.args.before.now c.args.after.now c.eq.result c.eq.ensures
