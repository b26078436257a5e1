use Rattle.std.proofs.Common.{◌≡◌, [], inr, vec_capacity}
use Rattle.std.proofs.lemmas.Result.{on_err_weaker}
use Rattle.lt_rules.specs.Rules.{acquire, update, finish, leave}
use Rattle.lt_rules.proofs.Rooms.{acquire_many, update_many, finish_many, leave_many}
use Rattle.lt_plain.proofs.Rooms.{room_kept}
use Rattle.lt_plain.proofs.plain_record.PlainRecord.step.Goals as goal

pub returns-in-Acquire-clause-full : goal.returns-in-Acquire-clause-full
returns-in-Acquire-clause-full c = rw c.in-Acquire.is (on_err_weaker c.acquire.result (λ few. inr few) c.acquire.ensures.full)

pub returns-in-Acquire-clause-room : goal.returns-in-Acquire-clause-room
returns-in-Acquire-clause-room c =
    room_kept c.args.self.now c.acquire.new.self (acquire c.args.self.now c.in-Acquire.txn c.in-Acquire.ts) c.acquire.result c.acquire.new.lets.items (c.acquire.new.lets.items ≡ []) (vec_capacity c.args.lets.now) (vec_capacity c.acquire.new.lets) c.acquire.ensures.ok c.acquire.ensures.err (acquire_many c.args.self.now c.in-Acquire.txn c.in-Acquire.ts) c.acquire.ensures.kept

pub returns-in-Update-clause-room : goal.returns-in-Update-clause-room
returns-in-Update-clause-room c =
    room_kept c.args.self.now c.update.new.self (update c.args.self.now c.in-Update.txn c.in-Update.ts) c.update.result c.update.new.lets.items (c.update.new.lets.items ≡ []) (vec_capacity c.args.lets.now) (vec_capacity c.update.new.lets) c.update.ensures.ok c.update.ensures.err (update_many c.args.self.now c.in-Update.txn c.in-Update.ts) c.update.ensures.kept

pub returns-in-Finish-clause-room : goal.returns-in-Finish-clause-room
returns-in-Finish-clause-room c =
    room_kept c.args.self.now c.finish.new.self (finish c.args.self.now c.in-Finish.txn) c.finish.result c.finish.new.lets.items (c.finish.new.lets.items ≡ []) (vec_capacity c.args.lets.now) (vec_capacity c.finish.new.lets) c.finish.ensures.ok c.finish.ensures.err (finish_many c.args.self.now c.in-Finish.txn) c.finish.ensures.kept

pub returns-in-Leave-clause-room : goal.returns-in-Leave-clause-room
returns-in-Leave-clause-room c =
    room_kept c.args.self.now c.leave.new.self (leave c.args.self.now c.in-Leave.number) c.leave.result c.leave.new.lets.items (c.leave.new.lets.items ≡ []) (vec_capacity c.args.lets.now) (vec_capacity c.leave.new.lets) c.leave.ensures.ok c.leave.ensures.err (leave_many c.args.self.now c.in-Leave.number) c.leave.ensures.kept
