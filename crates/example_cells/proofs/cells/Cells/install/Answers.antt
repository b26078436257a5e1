use Rattle.std.proofs.Common.{◌≡◌, ℕ, Some, ◌∙◌, sym, subst}
use Rattle.std.specs.Prelude.{IfSome}
use Rattle.example_values.specs.Values.{ValuesState}
use Rattle.example_cells.specs.declared.cell.Cell.{Cell}
use Rattle.example_cells.specs.Knowing.{cell_at, value_bytes}
use Rattle.example_cells.specs.Leaving.{LeftAt, IsCellLeft}
use Rattle.example_cells.proofs.Knows.{install_knows}
use Rattle.example_cells.proofs.Lefts.{leave_left, what_is_left}
use Rattle.example_cells.proofs.cells.Cells.install.Goals as goal

pub invariant_of-self : goal.invariant_of-self
invariant_of-self g c =
    let made = c.install_and_leave-left in
    let self = c.args.self.now in
    let key = c.args.key.now in
    let here : (d : Cell) → cell_at made.new.cells key ≡ Some d → IsCellLeft g.N.Name.of.shards made.new.seen.log key d = subst (λ (n : ℕ). (d : Cell) → cell_at made.new.cells key ≡ Some d → IsCellLeft n made.new.seen.log key d) self.many made.ensures.here in record {
      of_book = self.of_book;
      of_seen = made.ensures.book ∙ self.of_seen;
      many = self.many;
      left = leave_left c.entries_stay.ensures made.result self.map made.new.cells key c.args.put g.N.Name.of.shards self.seen.log made.new.seen.log made.ensures.installs here made.ensures.more self.left;
    }

pub returns-clause-keeps : goal.returns-clause-keeps
returns-clause-keeps g c = install_knows c.install_and_leave-left.result c.args.self.now.map c.install_and_leave-left.new.cells c.args.key.now c.args.put c.install_and_leave-left.ensures.installs

pub returns-clause-left : goal.returns-clause-left
returns-clause-left g c = λ is.
    let made = c.install_and_leave-left in
    let self = c.args.self.now in
    let key = c.args.key.now in
    let shards = g.N.Name.of.shards in
    let here : (d : Cell) → cell_at made.new.cells key ≡ Some d → IsCellLeft shards made.new.seen.log key d = subst (λ (n : ℕ). (d : Cell) → cell_at made.new.cells key ≡ Some d → IsCellLeft n made.new.seen.log key d) self.many made.ensures.here in
    subst (λ (s : ValuesState). IfSome c.last-last.result (λ t. IfSome c.args.put (λ p. LeftAt shards s.log key t.freed (value_bytes p)))) (sym c.again.ensures)
    (subst (λ o. IfSome o (λ t. IfSome c.args.put (λ p. LeftAt shards made.new.seen.log key t.freed (value_bytes p)))) (sym c.last-last.ensures)
    (what_is_left made.result self.map made.new.cells key c.args.put shards made.new.seen.log is made.ensures.installs here))
