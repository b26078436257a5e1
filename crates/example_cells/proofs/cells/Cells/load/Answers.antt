use Rattle.std.proofs.Common.{false, Some}
use Rattle.example_cells.proofs.Knows.{install_knows}
use Rattle.example_cells.proofs.Lefts.{put_left}
use Rattle.example_cells.proofs.cells.Cells.load.Goals as goal

pub invariant_of-self : goal.invariant_of-self
invariant_of-self g c =
    let self = c.args.self.now in record {
      of_book = self.of_book;
      of_seen = self.of_seen;
      many = self.many;
      left = c.make.ensures.left g.N.Name.of.shards self.seen.log self.left;
    }

pub invariant_of-self-2 : goal.invariant_of-self-2
invariant_of-self-2 g c =
    let self = c.args.self.now in record {
      of_book = self.of_book;
      of_seen = self.of_seen;
      many = self.many;
      left = put_left c.make.new.cells c.install.new.cells c.args.key.now (Some c.args.value) c.install.ensures g.N.Name.of.shards self.seen.log (c.make.ensures.left g.N.Name.of.shards self.seen.log self.left);
    }

pub returns : goal.returns
returns g c = record { keeps = λ es knows. install_knows false c.make.new.cells c.install.new.cells c.args.key.now (Some c.args.value) c.install.ensures es (c.in_ok-make.ensures.keeps es knows) }
