-- One step of a key, the key's legal histories, and the holder of its lock as the events tell it.
use Rattle.std.specs.Prelude.{ℕ, Bool, true, false, ◌≡◌, ◌≢◌, nat_eq, if◌then◌else◌, Option, Some, None, List, [], ◌∷◌, IsSome}
use Rattle.std.specs.List.{list_any, find}
use Rattle.std.specs.Option.{option_map}
use Rattle.lt_ids.specs.Ids.{is_below}
use Rattle.lt_ids.specs.declared.ticket.Through.{Through}
use Rattle.lt_ids.specs.declared.timestamp.Timestamp.{Timestamp}
use Rattle.lt_ids.specs.declared.request.Access.{Access}
use Rattle.lt_rules.specs.declared.queued.Holder.{Holder}
use Rattle.lt_rules.specs.declared.queued.QueuedRequest.{QueuedRequest}
use Rattle.lt_rules.specs.declared.queued.QueuedWriter.{QueuedWriter}
use Rattle.lt_rules.specs.declared.call.Call.{Call}
use Rattle.lt_rules.specs.declared.call.Call.TheVariants.{Visit, Acquire, Update, Finish, Leave, Look}
use Rattle.lt_rules.specs.declared.call.Reply.{Reply}
use Rattle.lt_rules.specs.declared.call.Reply.TheVariants.{Nothing, Reserved, Idle, WaitFor, WaitFirst, WaitOwn, Taken, Raised, Freed}
use Rattle.lt_rules.specs.declared.free_key.AtFreeKey.{AtFreeKey}
use Rattle.lt_rules.specs.declared.free_key.AtFreeKey.TheVariants.{Answers, Takes}
use Rattle.lt_rules.specs.Rules.{Record, empty, number_of, writer_number, is_txn, Outcome, unchanged, free, acquire, update, finish_by, leave_by, is_reserved_by}
use Rattle.lt_rules.specs.Visit.{visit}

-- the reply to a look by request n, which waits for transaction txn; `held` tells whether txn holds the lock or
-- has it reserved
abbrev pub waits_for : Option ℕ → ℕ → ℕ → Bool → Reply
waits_for None n txn held = WaitFor txn held
waits_for (Some first) n txn held = if nat_eq first n then WaitFirst txn held else WaitFor txn held

-- the reply to a look by request n at a lock without a holder, which waits for the transaction that has the
-- reservation, if there is one
abbrev pub waits_for_reserved : Option ℕ → ℕ → Option ℕ → Reply
waits_for_reserved first n None = Nothing
waits_for_reserved first n (Some txn) = waits_for first n txn false

-- the same for writer n of transaction `own`, for which the lock may be reserved
abbrev pub waits_behind : Option ℕ → ℕ → Option ℕ → Option ℕ → Reply
waits_behind first n own None = Nothing
waits_behind first n own (Some txn) = if is_txn own txn then WaitOwn txn else waits_for first n txn false

-- the reply to a look by waiting reader n: `first` is the number of the distinguished waiter, and `reserved` the
-- transaction for which the lock is reserved
abbrev pub reader_reply : Option ℕ → ℕ → Option Holder → Option ℕ → Reply
reader_reply first n None reserved = waits_for_reserved first n reserved
reader_reply first n (Some h) reserved = waits_for first n h.txn true

-- the same for waiting writer n of transaction `own`
abbrev pub writer_reply : Option ℕ → ℕ → Option ℕ → Option Holder → Option ℕ → Reply
writer_reply first n own None reserved = waits_behind first n own reserved
writer_reply first n own (Some h) reserved = waits_for first n h.txn true

-- The transaction for which the lock is reserved. A lock with a holder is reserved for none. In every record that
-- can arise, the request that holds a reservation has a transaction.
abbrev pub reserved_txn : Option Holder → Option QueuedRequest → Option ℕ
reserved_txn None None = None
reserved_txn None (Some reservation) = reservation.txn
reserved_txn (Some h) reservation = None

-- the same replies, from the parts of a record

abbrev pub look_reader : Record → ℕ → Option Holder → Option QueuedRequest → Reply
look_reader r n holder reservation = reader_reply r.distinguished n holder (reserved_txn holder reservation)

abbrev pub look_behind : Option ℕ → QueuedRequest → Option ℕ → Reply
look_behind first q reserved = waits_behind first (number_of q) q.txn reserved

abbrev pub look_writer : Record → QueuedRequest → Option Holder → Option QueuedRequest → Reply
look_writer r q holder reservation =
    writer_reply r.distinguished (number_of q) q.txn holder (reserved_txn holder reservation)

abbrev pub look_waiter : Record → ℕ → Option QueuedWriter → Reply
look_waiter r n (Some w) = if w.active then look_writer r w.request r.holder r.reservation else Idle
look_waiter r n None =
    if list_any (λ q. nat_eq (number_of q) n) r.readers then look_reader r n r.holder r.reservation else Nothing

-- what the request with this number finds at the key
abbrev pub look : Record → ℕ → Reply
look r n =
    if is_reserved_by r.reservation n then Reserved
    else look_waiter r n (find (λ w. nat_eq (writer_number w) n) r.writers)

abbrev pub is_visit : Call → Bool
is_visit (Visit ticket txn ts access longest) = true
is_visit _ = false

-- one step of a record by a call of this pass, with the effects of a visit and of a release as parameters
abbrev pub step_by : (Record → QueuedRequest → ℕ → Access → Outcome) → (Record → Reply → Outcome) → Record → ℕ → Call → Outcome
step_by visit free r pass (Visit ticket txn ts access longest) = visit r (record { ticket = ticket; txn = txn; ts = ts; pass = pass }) longest access
step_by visit free r pass (Acquire txn ts) = acquire r txn ts
step_by visit free r pass (Update txn ts) = update r txn ts
step_by visit free r pass (Finish txn) = finish_by free r.holder r txn
step_by visit free r pass (Leave number) = leave_by free r number
step_by visit free r pass (Look number) = unchanged r (look r number)

abbrev pub step : Record → ℕ → Call → Outcome
step r pass call = step_by visit free r pass call

-- what a call does at a key that has no record
abbrev pub IsAtFreeKey : Call → AtFreeKey → Type 0
IsAtFreeKey call (Answers reply) = (pass : ℕ) → step empty pass call ≡ unchanged empty reply
IsAtFreeKey call (Takes holder) = call ≡ Acquire holder.txn holder.ts

-- a step in one key's history
pub record Event : Type 0 where
  pub pass : ℕ
  pub call : Call
  pub reply : Reply
  pub lets : List Through

-- A step at any key: the key, the calling pass, its call, the reply, and the lets in order.
pub record EntryState : Type 0 where
  pub key : List ℕ
  pub pass : ℕ
  pub call : Call
  pub reply : Reply
  pub lets : List Through

-- From this record on, each step has the reply and the lets that these rules give.
abbrev pub IsLegalBy : (Record → ℕ → Call → Outcome) → Record → List Event → Type 0
IsLegalBy step r [] = Unit {0}
IsLegalBy step r (e ∷ es) =
    let o = step r e.pass e.call in
    (e.reply ≡ o.reply) × (e.lets ≡ o.lets) × IsLegalBy step o.after es

abbrev pub IsLegalFrom : Record → List Event → Type 0
IsLegalFrom r es = IsLegalBy step r es

abbrev pub IsLegal : List Event → Type 0
IsLegal es = IsLegalFrom empty es

abbrev pub record_after : Record → List Event → Record
record_after r [] = r
record_after r (e ∷ es) = record_after (step r e.pass e.call).after es

-- The holder of a lock, read off the events of its key alone.

abbrev pub is_taken : Reply → Bool
is_taken Taken = true
is_taken _ = false

abbrev pub is_raised : Reply → Bool
is_raised Raised = true
is_raised _ = false

abbrev pub is_freed : Reply → Bool
is_freed Freed = true
is_freed _ = false

-- the later of two timestamps
abbrev pub later : Timestamp → Timestamp → Timestamp
later a b = if is_below a b then b else a

-- The stamp of transaction txn after an event, if it holds the lock: the timestamp of the acquire that took the
-- lock, as raised since. A finish that frees the lock ends it.
abbrev pub stamp_after : ℕ → Option Timestamp → Call → Reply → Option Timestamp
stamp_after txn stamp (Visit ticket by ts access longest) reply = stamp
stamp_after txn stamp (Acquire by ts) reply =
    if nat_eq by txn then (if is_taken reply then Some ts else if is_raised reply then option_map (λ s. later s ts) stamp else stamp) else stamp
stamp_after txn stamp (Update by ts) reply =
    if nat_eq by txn then (if is_raised reply then option_map (λ s. later s ts) stamp else stamp) else stamp
stamp_after txn stamp (Finish by) reply =
    if nat_eq by txn then (if is_freed reply then None else stamp) else stamp
stamp_after txn stamp (Leave number) reply = stamp
stamp_after txn stamp (Look number) reply = stamp

abbrev pub stamp_from : ℕ → Option Timestamp → List Event → Option Timestamp
stamp_from txn stamp [] = stamp
stamp_from txn stamp (e ∷ es) = stamp_from txn (stamp_after txn stamp e.call e.reply) es

-- the stamp of a transaction after these events, if it holds the lock
abbrev pub stamp_of : ℕ → List Event → Option Timestamp
stamp_of txn es = stamp_from txn None es

abbrev pub Holds : List Event → ℕ → Type 0
Holds es txn = IsSome (stamp_of txn es)

-- After these events, each other transaction that holds the lock has a stamp above this timestamp.
abbrev pub IsBelowOthers : List Event → Option ℕ → Timestamp → Type 0
IsBelowOthers past txn ts = (T : ℕ) (stamp : Timestamp) → txn ≢ Some T → stamp_of T past ≡ Some stamp → is_below ts stamp ≡ true
