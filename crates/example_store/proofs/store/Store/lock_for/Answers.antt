use Rattle.std.proofs.Common.{◌≡◌, [], ◌∷◌, ◌++◌, rules}
use Rattle.example_cells.specs.declared.cell.CellReading.{CellReading}
use Rattle.example_cells.specs.declared.held.HeldLock.{HeldLock}
use Rattle.example_store.specs.Locks.{IsLockedRead}
use Rattle.example_store.proofs.Held.{took_lock, locked_read}
use Rattle.example_store.proofs.store.Store.lock_for.Goals as goal

pub returns-in-Ok-clause-took : goal.returns-in-Ok-clause-took
returns-in-Ok-clause-took g c =
    took_lock (λ (r : CellReading). r.value) (λ (l : HeldLock g.row.N.Denot g.N.Name g.N.ValueName). c.note.new.self.locks.items ≡ c.args.txn.now.locks.items ++ l ∷ []) (λ (l : HeldLock g.row.N.Denot g.N.Name g.N.ValueName). l.key ≡ c.args.key.now)
    (λ (l : HeldLock g.row.N.Denot g.N.Name g.N.ValueName) r. IsLockedRead g.N.Name.of.shards c.args.key.now l.seen.seen l.taken l.values.log r)
    c.in-Ok.field-0.lock c.in-Ok.field-0.reading c.value_of.result (search rules) (search rules) (locked_read g.N.Name.of.shards c.args.key.now c.in-Ok.field-0.lock.seen.seen c.in-Ok.field-0.lock.taken c.in-Ok.field-0.lock.values.log c.in-Ok.field-0.reading (search rules) (search rules)) c.value_of.ensures
