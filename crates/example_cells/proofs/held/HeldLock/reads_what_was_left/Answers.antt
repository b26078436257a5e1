use Rattle.std.proofs.Common.{subst}
use mathlib.Core.List.{IsPrefix}
use Rattle.example_values.specs.Values.{ValuesState}
use Rattle.example_cells.proofs.Lefts.{same_value}
use Rattle.example_cells.proofs.held.HeldLock.reads_what_was_left.Goals as goal

pub returns : goal.returns
returns g c =
    let both = c.learn.new.self.log in
    let mine = c.args.self.now in
    let its = c.args.tenure.now in
    same_value c.entries_stay.ensures g.N.Name.of.shards mine.values.log its.values.log both mine.key its.key its.freed (subst (λ (s : ValuesState). IsPrefix s.log both) c.again-both.ensures c.learn.ensures.more) c.learn.ensures.that
