use Rattle.std.proofs.Common.{◌≡◌, [], rules, subst, vec_capacity}
use Rattle.std.specs.Result.{IfOk}
use Rattle.lt_rules.specs.declared.queued.QueuedRequest.{QueuedRequest}
use Rattle.lt_rules.specs.Rules.{acquire, update, leave}
use Rattle.lt_rules.specs.Visit.{visit}
use Rattle.lt_rules.proofs.Rooms.{acquire_many, update_many, leave_many}
use Rattle.lt_row.specs.Row.{record_of, request_of}
use Rattle.lt_row.specs.RowStepped.{UpdatesRow}
use Rattle.lt_row.proofs.Grows.{room_kept}
use Rattle.lt_row.proofs.one_call.step.Goals as goal

pub returns-in-Visit-clause-ok : goal.returns-in-Visit-clause-ok
returns-in-Visit-clause-ok c =
    let asked = c.in-Visit in
    let q : QueuedRequest = record { ticket = asked.ticket; txn = asked.txn; ts = asked.ts; pass = c.args.pass } in
    let same : request_of c.stand_of.result ≡ q = search rules in
    let made = subst (λ (x : QueuedRequest). IfOk c.visit.result (UpdatesRow c.args.links.now c.visit.new.links c.args.row.now c.visit.new.row (λ r. visit r x asked.longest asked.access) [])) same c.visit.ensures.ok in
    rw (asked.is, c.visit.ensures.lets) made

pub returns-in-Leave-clause-no_memory : goal.returns-in-Leave-clause-no_memory
returns-in-Leave-clause-no_memory c = search rules

pub returns-in-Leave-clause-ok : goal.returns-in-Leave-clause-ok
returns-in-Leave-clause-ok c = search rules

pub returns-in-Acquire-clause-room : goal.returns-in-Acquire-clause-room
returns-in-Acquire-clause-room c =
    let old = record_of c.args.links.now c.args.row.now in
    let asked = c.in-Acquire in
    room_kept c.acquire.result c.args.links.now c.acquire.new.links c.args.row.now c.acquire.new.row (λ r. acquire r asked.txn asked.ts) c.acquire.new.lets.items (vec_capacity c.args.lets.now) (vec_capacity c.acquire.new.lets) c.acquire.ensures.ok c.acquire.ensures.err (acquire_many old asked.txn asked.ts) c.acquire.ensures.kept

pub returns-in-Update-clause-room : goal.returns-in-Update-clause-room
returns-in-Update-clause-room c =
    let old = record_of c.args.links.now c.args.row.now in
    let asked = c.in-Update in
    room_kept c.update.result c.args.links.now c.update.new.links c.args.row.now c.update.new.row (λ r. update r asked.txn asked.ts) c.update.new.lets.items (vec_capacity c.args.lets.now) (vec_capacity c.update.new.lets) c.update.ensures.ok c.update.ensures.err (update_many old asked.txn asked.ts) c.update.ensures.kept

pub returns-in-Leave-clause-room : goal.returns-in-Leave-clause-room
returns-in-Leave-clause-room c =
    let old = record_of c.args.links.now c.args.row.now in
    let asked = c.in-Leave in
    room_kept c.leave.result c.args.links.now c.leave.new.links c.args.row.now c.leave.new.row (λ r. leave r asked.number) c.leave.new.lets.items (vec_capacity c.args.lets.now) (vec_capacity c.leave.new.lets) c.leave.ensures.ok c.leave.ensures.err (leave_many old asked.number) c.leave.ensures.kept
