use Rattle.std.proofs.Common.{vec_capacity}
use Rattle.lt_ids.specs.Ids.{is_below}
use Rattle.lt_rules.specs.declared.queued.QueuedRequest.{QueuedRequest}
use Rattle.lt_plain.specs.Plain.{let_if}
use Rattle.lt_plain.proofs.Sent.{no_room}
use Rattle.lt_plain.proofs.Rooms.{on_err}
use Rattle.lt_plain.proofs.queues.push_below.Goals as goal

pub returns-in_err-push_if-clause-full : goal.returns-in_err-push_if-clause-full
returns-in_err-push_if-clause-full c =
    on_err c.from_residual.result _
    (no_room (λ (q : QueuedRequest). let_if (is_below q.ts c.args.ts) q) c.args.readers.now c.loop-q.q-index c.q-item.result c.args.lets.now.items c.loop-q.lets.items (vec_capacity c.args.lets.now) (vec_capacity c.loop-q.lets)
    c.loop-q-test.true c.q-item.is c.loop-q.invariant.items c.loop-q.invariant.room (rw c.is_before.ensures at c.in_err-push_if.ensures.full))
