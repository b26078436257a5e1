use Rattle.std.proofs.Common.{rules}
use Rattle.example_cells.specs.declared.held.HeldLock.{HeldLock}
use Rattle.example_cells.specs.Committing.{LeavesValue}
use Rattle.example_cells.proofs.Freed.{followed, every_more, leaves_on}
use Rattle.example_cells.proofs.cell_table.CellTable.abort.Goals as goal

pub loop-lock-preserved : goal.loop-lock-preserved
loop-lock-preserved g c = record {
  of = c.give_up-gone.ensures.of;
  number = search rules;
  more = followed c.args.pass.now.seen c.loop-lock.pass.seen c.give_up-gone.new.pass.seen c.loop-lock.invariant.more c.give_up-gone.ensures.more;
  leaves = λ all. every_more (λ (k : HeldLock g.row.N.Denot g.N.Name g.N.ValueName). LeavesValue g.N.Name.of.shards c.loop-lock.pass.seen k.key) (λ (k : HeldLock g.row.N.Denot g.N.Name g.N.ValueName). LeavesValue g.N.Name.of.shards c.give_up-gone.new.pass.seen k.key) c.loop-lock.yielded c.in-Some.lock
      (λ k l. leaves_on c.parts_begin.ensures g.N.Name.of.shards c.loop-lock.pass.seen c.give_up-gone.new.pass.seen k.key c.give_up-gone.ensures.more l)
      (c.loop-lock.invariant.leaves (c.are_both-freed.ensures.other all)) (c.give_up-gone.ensures.leaves (c.are_both-freed.ensures.one all));
}
