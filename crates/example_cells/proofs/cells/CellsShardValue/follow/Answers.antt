use Rattle.example_cells.proofs.Knows.{laws_of, know_more}
use Rattle.example_cells.proofs.Lefts.{told_left}
use Rattle.example_cells.proofs.cells.CellsShardValue.follow.Goals as goal

pub invariant_of-self : goal.invariant_of-self
invariant_of-self g c =
    let self = c.args.self.now in record {
      of_book = self.of_book;
      of_seen = self.of_seen;
      many = self.many;
      left = told_left g.N.Name.of.shards self.seen.log self.map c.tell.new.cells c.args.key.now c.args.call.now c.args.answer.now.reply c.args.answer.now.at c.tell.ensures self.left;
    }

pub returns : goal.returns
returns g c = λ es next knows. know_more (laws_of c.owner_follows.ensures c.last_freed_follows.ensures c.freeing_ends_a_tenure.ensures c.tenure_lasts.ensures) c.args.self.now.map c.tell.new.cells c.args.key.now es c.args._pass c.args.call.now c.args.answer.now next c.tell.ensures c.requires knows
