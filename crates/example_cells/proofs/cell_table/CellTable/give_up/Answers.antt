use Rattle.std.proofs.Common.{None, sym, ◌∙◌}
use Rattle.lt_words.specs.History.{part, shard_of}
use Rattle.lt_tenure.specs.Tenure.{IsHeldAt}
use Rattle.example_cells.specs.Committing.{Installs}
use Rattle.example_cells.proofs.Freed.{some_of, some_at, leaves}
use Rattle.example_cells.proofs.cell_table.CellTable.give_up.Goals as goal

pub returns-clause-leaves : goal.returns-clause-leaves
returns-clause-leaves g c = λ all.
    let n = some_of c.free.result (sym c.is_some.ensures ∙ all) in
    let lock = c.args.lock.now in
    let shards = g.N.Name.of.shards in
    leaves shards c.free.new.pass.seen c.seen-point.result.seen lock.key lock.txn lock.taken n.0.at
    (some_at (λ f. IsHeldAt shards c.free.new.pass.seen c.seen-point.result.seen lock.txn (record { key = lock.key; taken = lock.taken; freed = f.at })) c.free.result n.0 n.1 c.free.ensures.held)
    (some_at (λ f. Installs (part (shard_of lock.key shards) c.free.new.pass.seen) lock.key f.at None) c.free.result n.0 n.1 c.free.ensures.installs)
