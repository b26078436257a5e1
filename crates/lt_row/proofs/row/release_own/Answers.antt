use Rattle.std.proofs.Common.{◌∙◌, sym}
use Rattle.lt_links.specs.declared.ids.QueueKind.TheVariants.{Writers}
use Rattle.lt_row.specs.Row.{queue_at}
use Rattle.lt_row.proofs.SameTxn.{none_lets, none_leaves}
use Rattle.lt_row.proofs.row.release_own.Goals as goal

pub returns-then-has_none-clause-lets : goal.returns-then-has_none-clause-lets
returns-then-has_none-clause-lets c = c.requires.lets ∙ sym (none_lets c.args.txn _ (c.has_none.ensures c.if-has_none.true))

pub returns-then-has_none-clause-writes : goal.returns-then-has_none-clause-writes
returns-then-has_none-clause-writes c = none_leaves c.args.links.now (queue_at c.args.row.now.id Writers) c.args.txn c.requires.row.linked.sound (c.has_none.ensures c.if-has_none.true)
