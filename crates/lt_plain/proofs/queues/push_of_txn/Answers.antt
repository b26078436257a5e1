use Rattle.std.proofs.Common.{◌&&◌, vec_capacity}
use Rattle.lt_rules.specs.Rules.{is_of}
use Rattle.lt_rules.specs.declared.queued.QueuedWriter.{QueuedWriter}
use Rattle.lt_plain.specs.Plain.{let_if}
use Rattle.lt_plain.proofs.Sent.{no_room}
use Rattle.lt_plain.proofs.Rooms.{on_err}
use Rattle.lt_plain.proofs.queues.push_of_txn.Goals as goal

pub returns-in_err-push_if-clause-full : goal.returns-in_err-push_if-clause-full
returns-in_err-push_if-clause-full c =
    on_err c.from_residual.result _
    (no_room (λ (w : QueuedWriter). let_if (is_of c.args.txn w && w.active) w.request) c.args.writers.now c.loop-w.w-index c.w-item.result c.args.lets.now.items c.loop-w.lets.items (vec_capacity c.args.lets.now) (vec_capacity c.loop-w.lets)
    c.loop-w-test.true c.w-item.is c.loop-w.invariant.items c.loop-w.invariant.room (rw c.waits_of.ensures at c.in_err-push_if.ensures.full))
