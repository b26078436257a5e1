use Rattle.std.proofs.Common.{sym}
use mathlib.Core.Bool.{true≢false}
use Rattle.lt_row.proofs.Written.{WritesQueue-set, txn_there}
use Rattle.lt_row.proofs.queue_edit.renew_stand.Goals as goal

pub returns-clause-writes : goal.returns-clause-writes
returns-clause-writes c = λ q xs ys cut. WritesQueue-set c.args.links.now c.set_stand.new.self q c.args.node xs ys c.requires.sound cut c.args.stand.now c.in_ok-set_stand.ensures.sets c.set_stand.ensures.sound

pub returns-in_err-set_stand-clause-same_txn : goal.returns-in_err-set_stand-clause-same_txn
returns-in_err-set_stand-clause-same_txn c = λ same. absurd (true≢false (sym (c.in_err-set_stand.ensures.same_txn (txn_there c.args.links.now c.args.node c.args.stand.now.txn c.requires.there same))))
