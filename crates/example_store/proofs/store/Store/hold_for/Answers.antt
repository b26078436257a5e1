use Rattle.std.proofs.Common.{rules}
use Rattle.example_store.proofs.Held.{held_key}
use Rattle.example_store.proofs.store.Store.hold_for.Goals as goal

pub returns-in-Some-clause-key : goal.returns-in-Some-clause-key
returns-in-Some-clause-key g c = held_key (λ l. l.key) c.args.key.now c.args.txn.now.locks.items c.in-Some.index (search rules)
