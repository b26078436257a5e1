-- The rules give each call one of its own replies.
use Rattle.std.proofs.Common.{◌≡◌, ℕ, Bool, true, false, cond, Option, Some, None, eqb, refl}
use Rattle.std.specs.List.{list_any, find}
use Rattle.std.specs.Ordering.{nat_cmp, match_ordering}
use Rattle.std.specs.declared.cmp.Ordering.{Ordering}
use Rattle.std.specs.declared.cmp.Ordering.TheVariants.{Less, Equal, Greater}
use Rattle.lt_ids.specs.declared.timestamp.Timestamp.{Timestamp}
use Rattle.lt_ids.specs.declared.request.Access.{Access}
use Rattle.lt_ids.specs.declared.request.Access.TheVariants.{Read, Write}
use Rattle.lt_ids.specs.Ids.{is_below}
use Rattle.lt_rules.specs.declared.queued.Holder.{Holder}
use Rattle.lt_rules.specs.declared.queued.QueuedRequest.{QueuedRequest}
use Rattle.lt_rules.specs.declared.queued.QueuedWriter.{QueuedWriter}
use Rattle.lt_rules.specs.declared.call.Call.{Call}
use Rattle.lt_rules.specs.declared.call.Call.TheVariants.{Visit, Acquire, Update, Finish, Leave, Look}
use Rattle.lt_rules.specs.declared.call.Reply.{Reply}
use Rattle.lt_rules.specs.declared.call.Reply.TheVariants.{Other, Nothing, Reserved, Idle, WaitOwn}
use Rattle.lt_rules.specs.Rules.{Record, number_of, writer_number, is_txn, Outcome, unchanged, raise, acquire_from, update_from, finish_from, leave, is_reserved_by, is_waiting, stop_reading}
use Rattle.lt_rules.specs.Step.{step, look, look_waiter, look_reader, look_writer, look_behind, waits_for, waits_for_reserved}
use Rattle.lt_rules.specs.Visit.{visit_lock, visit_held, visit_reserved, wait_to_read, is_too_long, join_writers, pass, displace, is_queued}
use Rattle.lt_text.specs.Replies.{is_visit_reply, is_acquire_reply, is_update_reply, is_finish_reply, is_leave_reply, is_look_reply, is_reply_of}

abbrev Has : (Reply → Bool) → Outcome → Type 0
Has test o = test o.reply ≡ true

either : (test : Reply → Bool) (b : Bool) (x y : Outcome) → Has test x → Has test y → Has test (cond b x y)
either test true x y p q = p
either test false x y p q = q

acquire_fits : (o : Option Holder) (r : Record) (h : Holder) → Has is_acquire_reply (acquire_from o r h)
acquire_fits None r h = refl
acquire_fits (Some holder) r h =
    either is_acquire_reply (eqb holder.txn h.txn) (raise r holder h.ts) (unchanged r Other) (either is_acquire_reply (is_below holder.ts h.ts) _ _ refl refl) refl

update_fits : (o : Option Holder) (r : Record) (txn : ℕ) (ts : Timestamp) → Has is_update_reply (update_from o r txn ts)
update_fits None r txn ts = refl
update_fits (Some holder) r txn ts =
    either is_update_reply (eqb holder.txn txn) (raise r holder ts) (unchanged r Other) (either is_update_reply (is_below holder.ts ts) _ _ refl refl) refl

finish_fits : (o : Option Holder) (r : Record) (txn : ℕ) → Has is_finish_reply (finish_from o r txn)
finish_fits None r txn = refl
finish_fits (Some holder) r txn = either is_finish_reply (eqb holder.txn txn) _ _ refl refl

ordered : (o : Ordering) (x y z : Outcome) → Has is_visit_reply x → Has is_visit_reply y → Has is_visit_reply z → Has is_visit_reply (match_ordering o x y z)
ordered Less x y z p q s = p
ordered Equal x y z p q s = q
ordered Greater x y z p q s = s

join_fits : (r : Record) (q : QueuedRequest) (longest : ℕ) → Has is_visit_reply (join_writers r q longest)
join_fits r q longest = either is_visit_reply (is_too_long r.writers q longest) _ _ refl refl

held_fits : (r : Record) (h : Holder) (q : QueuedRequest) (longest : ℕ) (a : Access) → Has is_visit_reply (visit_held r h q longest a)
held_fits r h q longest Read = either is_visit_reply (is_below q.ts h.ts) (pass r) (wait_to_read r q) refl (either is_visit_reply (is_queued r.writers (number_of q)) _ _ refl refl)
held_fits r h q longest Write = join_fits r q longest

displace_fits : (txn : Option ℕ) (r : Record) (s q : QueuedRequest) → Has is_visit_reply (displace txn r s q)
displace_fits None r s q = refl
displace_fits (Some txn) r s q = refl

reserved_fits : (r : Record) (s q : QueuedRequest) (longest : ℕ) (a : Access) → Has is_visit_reply (visit_reserved r s q longest a)
reserved_fits r s q longest Read = refl
reserved_fits r s q longest Write = ordered (nat_cmp (number_of q) (number_of s)) (displace q.txn r s q) (pass r) (join_writers r q longest) (displace_fits q.txn r s q) refl (join_fits r q longest)

lock_fits : (h : Option Holder) (s : Option QueuedRequest) (r : Record) (q : QueuedRequest) (longest : ℕ) (a : Access) → Has is_visit_reply (visit_lock h s r q longest a)
lock_fits None None r q longest a = refl
lock_fits None (Some s) r q longest a = reserved_fits r s q longest a
lock_fits (Some h) s r q longest a = either is_visit_reply (is_txn q.txn h.txn) (pass r) (visit_held r h q longest a) refl (held_fits r h q longest a)

leave_fits : (r : Record) (n : ℕ) → Has is_leave_reply (leave r n)
leave_fits r n = either is_leave_reply (is_reserved_by r.reservation n) _ _ refl (either is_leave_reply (is_waiting r n) _ _ refl refl)

abbrev IsLook : Reply → Type 0
IsLook reply = is_look_reply reply ≡ true

one_of : (b : Bool) (x y : Reply) → IsLook x → IsLook y → IsLook (cond b x y)
one_of true x y p q = p
one_of false x y p q = q

waits_fits : (first : Option ℕ) (n txn : ℕ) (held : Bool) → IsLook (waits_for first n txn held)
waits_fits None n txn held = refl
waits_fits (Some first) n txn held = one_of (eqb first n) _ _ refl refl

behind_fits : (first : Option ℕ) (n : ℕ) (txn : Option ℕ) → IsLook (waits_for_reserved first n txn)
behind_fits first n None = refl
behind_fits first n (Some txn) = waits_fits first n txn false

reader_fits : (r : Record) (n : ℕ) (h : Option Holder) (s : Option QueuedRequest) → IsLook (look_reader r n h s)
reader_fits r n None None = refl
reader_fits r n None (Some s) = behind_fits r.distinguished n s.txn
reader_fits r n (Some h) s = waits_fits r.distinguished n h.txn true

own_fits : (first : Option ℕ) (q : QueuedRequest) (txn : Option ℕ) → IsLook (look_behind first q txn)
own_fits first q None = refl
own_fits first q (Some txn) = one_of (is_txn q.txn txn) (WaitOwn txn) (waits_for first (number_of q) txn false) refl (waits_fits first (number_of q) txn false)

writer_fits : (r : Record) (q : QueuedRequest) (h : Option Holder) (s : Option QueuedRequest) → IsLook (look_writer r q h s)
writer_fits r q None None = refl
writer_fits r q None (Some s) = own_fits r.distinguished q s.txn
writer_fits r q (Some h) s = waits_fits r.distinguished (number_of q) h.txn true

waiter_fits : (r : Record) (n : ℕ) (w : Option QueuedWriter) → IsLook (look_waiter r n w)
waiter_fits r n None = one_of (list_any (λ q. eqb (number_of q) n) r.readers) (look_reader r n r.holder r.reservation) Nothing (reader_fits r n r.holder r.reservation) refl
waiter_fits r n (Some w) = one_of w.active (look_writer r w.request r.holder r.reservation) Idle (writer_fits r w.request r.holder r.reservation) refl

look_fits : (r : Record) (n : ℕ) → IsLook (look r n)
look_fits r n =
    let w = find (λ w. eqb (writer_number w) n) r.writers in
    one_of (is_reserved_by r.reservation n) Reserved (look_waiter r n w) refl (waiter_fits r n w)

pub step_fits : (r : Record) (pass : ℕ) (call : Call) → is_reply_of call (step r pass call).reply ≡ true
step_fits r pass (Visit ticket txn ts access longest) =
    let q : QueuedRequest = record { ticket = ticket; txn = txn; ts = ts; pass = pass } in
    lock_fits r.holder r.reservation (stop_reading r (number_of q)) q longest access
step_fits r pass (Acquire txn ts) = acquire_fits r.holder r (record { txn = txn; ts = ts })
step_fits r pass (Update txn ts) = update_fits r.holder r txn ts
step_fits r pass (Finish txn) = finish_fits r.holder r txn
step_fits r pass (Leave number) = leave_fits r number
step_fits r pass (Look number) = look_fits r number
