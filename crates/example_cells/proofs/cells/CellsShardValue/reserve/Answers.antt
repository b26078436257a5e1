use Rattle.example_cells.proofs.cells.CellsShardValue.reserve.Goals as goal

pub invariant_of-self : goal.invariant_of-self
invariant_of-self g c =
    let self = c.args.self.now in record {
      of_book = self.of_book;
      of_seen = self.of_seen;
      many = self.many;
      left = c.make.ensures.left g.N.Name.of.shards self.seen.log self.left;
    }
