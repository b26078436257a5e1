-- The record of a key, and the effect on it of each call except a visit.
use Rattle.std.specs.Prelude.{ℕ, Bool, false, ◌&&◌, not, nat_eq, is_none, is_some, Option, Some, None, List, [], ◌++◌, length, map, filter, ◌≡◌, suc, true, if◌then◌else◌, ◌∷◌, drop, take, slice_get}
use Rattle.lt_ids.specs.declared.ticket.Through.{Through}
use Rattle.lt_rules.specs.declared.queued.Holder.{Holder}
use Rattle.lt_rules.specs.declared.queued.QueuedRequest.{QueuedRequest}
use Rattle.lt_rules.specs.declared.queued.QueuedWriter.{QueuedWriter}
use Rattle.std.specs.Option.{option_map}
use Rattle.std.specs.List.{list_any, find}
use Rattle.lt_ids.specs.declared.timestamp.Timestamp.{Timestamp}
use Rattle.lt_ids.specs.Ids.{is_below}
use Rattle.lt_rules.specs.declared.call.Reply.{Reply}
use Rattle.lt_rules.specs.declared.call.Reply.TheVariants.{Passed, MustWait, Taken, Kept, Raised, Other, Freed, Left, Absent}

-- What the table knows of one key: the lock's holder or its reservation; the requests queued to write, ordered by
-- number; the requests queued to read; and the distinguished waiter, which is responsible for pushing the lock's
-- holder.
pub record Record : Type 0 where
  pub holder : Option Holder
  pub reservation : Option QueuedRequest
  pub writers : List QueuedWriter
  pub readers : List QueuedRequest
  pub distinguished : Option ℕ

-- the record of a key without a holder, a reservation or queued requests
abbrev pub empty : Record
empty = record { holder = None; reservation = None; writers = []; readers = []; distinguished = None }

-- the record with these parts
abbrev pub record_with : Option Holder → Option QueuedRequest → List QueuedWriter → List QueuedRequest → Option ℕ → Record
record_with holder reservation writers readers distinguished = record {
  holder = holder;
  reservation = reservation;
  writers = writers;
  readers = readers;
  distinguished = distinguished;
}

abbrev pub is_empty : Record → Bool
is_empty r = is_none r.holder && is_none r.reservation && nat_eq (length r.writers) 0 && nat_eq (length r.readers) 0 && is_none r.distinguished

abbrev pub number_of : QueuedRequest → ℕ
number_of q = q.ticket.number

abbrev pub writer_number : QueuedWriter → ℕ
writer_number w = number_of w.request

-- the let that ends this wait
abbrev pub through_of : QueuedRequest → Through
through_of q = record { pass = q.pass; ticket = q.ticket }

-- whether the first is this transaction; a request without a transaction belongs to none
abbrev pub is_txn : Option ℕ → ℕ → Bool
is_txn None txn = false
is_txn (Some own) txn = nat_eq own txn

-- whether both are the same transaction; two requests without a transaction do not belong to the same one
abbrev pub is_same_txn : Option ℕ → Option ℕ → Bool
is_same_txn own None = false
is_same_txn own (Some txn) = is_txn own txn

-- whether the writer has a transaction
abbrev pub has_txn : QueuedWriter → Bool
has_txn w = is_some w.request.txn

-- the eligible waiters, which may become the distinguished one: each reader, and each active writer, except the
-- writers of the transaction for which the lock is reserved
abbrev pub is_eligible : Option QueuedRequest → QueuedWriter → Bool
is_eligible None w = w.active
is_eligible (Some reservation) w = w.active && not (is_same_txn w.request.txn reservation.txn)

abbrev pub eligible : Option QueuedRequest → List QueuedRequest → List QueuedWriter → List ℕ
eligible reservation readers writers = map number_of readers ++ map writer_number (filter (is_eligible reservation) writers)

-- the outcome of a step: the record afterwards, the reply, and the lets in order
pub record Outcome : Type 0 where
  pub after : Record
  pub reply : Reply
  pub lets : List Through

-- The step had this outcome: these are the record afterwards, the reply and the lets.
pub record IsOutcome (outcome : Outcome) (after : Record) (reply : Reply) (lets : List Through) : Type 0 where
  pub moved : after ≡ outcome.after
  pub replied : reply ≡ outcome.reply
  pub let_through : lets ≡ outcome.lets

-- A call with this reply allocates nothing. For a visit that passes, this holds if it leaves the reservation as it
-- was.
abbrev pub NeedsNoMemory : Reply → Type 0 → Type 0
NeedsNoMemory Passed is_left = is_left
NeedsNoMemory MustWait is_left = ⊥
NeedsNoMemory Taken is_left = ⊥
NeedsNoMemory Raised is_left = ⊥
NeedsNoMemory Freed is_left = ⊥
NeedsNoMemory Left is_left = ⊥
NeedsNoMemory _ is_left = Unit {0}

-- this step of the record allocates nothing
abbrev pub TakesNoMemory : Record → Outcome → Type 0
TakesNoMemory r outcome = NeedsNoMemory outcome.reply (r.reservation ≡ outcome.after.reservation)

-- the outcome that changes nothing and has no lets
abbrev pub unchanged : Record → Reply → Outcome
unchanged r reply = record { after = r; reply = reply; lets = [] }

-- The distinguished waiter stays while it is among the candidates. Otherwise it is the first candidate.
abbrev pub distinguished_of : Option ℕ → List ℕ → Option ℕ
distinguished_of None candidates = slice_get candidates 0
distinguished_of (Some n) candidates = if list_any (λ m. nat_eq m n) candidates then Some n else slice_get candidates 0

abbrev pub settle : Record → Record
settle r = record r { distinguished = distinguished_of r.distinguished (eligible r.reservation r.readers r.writers) }

-- the requests of the active ones among these writers
abbrev pub active_requests : List QueuedWriter → List QueuedRequest
active_requests ws = map (λ w. w.request) (filter (λ w. w.active) ws)

abbrev pub is_of : ℕ → QueuedWriter → Bool
is_of txn w = is_txn w.request.txn txn

-- how many writers without a transaction come before the first writer with one
abbrev pub leading : List QueuedWriter → ℕ
leading [] = 0
leading (w ∷ ws) = if has_txn w then 0 else suc (leading ws)

-- The lock has just lost its holder or its reservation. All readers are let through, and so are the active writers
-- without a transaction before the first writer with one. The first writer with a transaction gets the
-- reservation, and is let through if it was active.
abbrev pub free : Record → Reply → Outcome
free r reply = record {
  after = settle (record r { reservation = option_map (λ w. w.request) (find has_txn r.writers); writers = drop (suc (leading r.writers)) r.writers; readers = [] });
  reply = reply;
  lets = map through_of (r.readers ++ active_requests (take (suc (leading r.writers)) r.writers));
}

-- the holder is set to this one, and the lock is released to the requests that are next
abbrev pub free_with : Record → Option Holder → Outcome
free_with r holder = free (record r { holder = holder }) Freed

-- The holder's timestamp rises, and the readers below the new timestamp are let through.
abbrev pub raise_to : Record → Holder → Timestamp → Outcome
raise_to r h ts = record {
  after = settle (record r { holder = Some (record h { ts = ts }); readers = filter (λ q. not (is_below q.ts ts)) r.readers });
  reply = Raised;
  lets = map through_of (filter (λ q. is_below q.ts ts) r.readers);
}

abbrev pub raise : Record → Holder → Timestamp → Outcome
raise r h ts = if is_below h.ts ts then raise_to r h ts else unchanged r Kept

-- the writer that a lost reservation becomes: the first one, inactive
abbrev pub set_back : Option QueuedRequest → List QueuedWriter
set_back None = []
set_back (Some q) = record { request = q; active = false } ∷ []

-- A lock without a holder is taken. The active writers of the new holder's transaction are let through, and all
-- its writers leave the queue. A reservation of another transaction becomes the first writer.
abbrev pub take_lock : Record → Holder → Outcome
take_lock r h = record {
  after = settle (record r { holder = Some h; reservation = None; writers = filter (λ w. not (is_of h.txn w)) (set_back r.reservation ++ r.writers) });
  reply = Taken;
  lets = map through_of (active_requests (filter (is_of h.txn) r.writers));
}

abbrev pub acquire_from : Option Holder → Record → Holder → Outcome
acquire_from None r h = take_lock r h
acquire_from (Some holder) r h = if nat_eq holder.txn h.txn then raise r holder h.ts else unchanged r Other

abbrev pub acquire : Record → ℕ → Timestamp → Outcome
acquire r txn ts = acquire_from r.holder r (record { txn = txn; ts = ts })

abbrev pub update_from : Option Holder → Record → ℕ → Timestamp → Outcome
update_from None r txn ts = unchanged r Other
update_from (Some holder) r txn ts = if nat_eq holder.txn txn then raise r holder ts else unchanged r Other

abbrev pub update : Record → ℕ → Timestamp → Outcome
update r txn ts = update_from r.holder r txn ts

-- a finish, with the effect of a release as the first parameter
abbrev pub finish_by : (Record → Reply → Outcome) → Option Holder → Record → ℕ → Outcome
finish_by free None r txn = unchanged r Other
finish_by free (Some holder) r txn = if nat_eq holder.txn txn then free (record r { holder = None }) Freed else unchanged r Other

abbrev pub finish_from : Option Holder → Record → ℕ → Outcome
finish_from holder r txn = finish_by free holder r txn

abbrev pub finish : Record → ℕ → Outcome
finish r txn = finish_from r.holder r txn

abbrev pub is_reserved_by : Option QueuedRequest → ℕ → Bool
is_reserved_by None n = false
is_reserved_by (Some q) n = nat_eq (number_of q) n

abbrev pub without_reader : List QueuedRequest → ℕ → List QueuedRequest
without_reader readers n = filter (λ q. not (nat_eq (number_of q) n)) readers

abbrev pub without_writer : List QueuedWriter → ℕ → List QueuedWriter
without_writer writers n = filter (λ w. not (nat_eq (writer_number w) n)) writers

abbrev pub stop_reading : Record → ℕ → Record
stop_reading r n = record r { readers = without_reader r.readers n }

-- whether a request with this number is among the readers or the writers
abbrev pub is_waiting : Record → ℕ → Bool
is_waiting r n = if list_any (λ q. nat_eq (number_of q) n) r.readers then true else list_any (λ w. nat_eq (writer_number w) n) r.writers

-- a leave, with the effect of a release as the first parameter
abbrev pub leave_by : (Record → Reply → Outcome) → Record → ℕ → Outcome
leave_by free r n =
    if is_reserved_by r.reservation n then free (record r { reservation = None }) Left
    else if is_waiting r n then record {
      after = settle (record r { writers = without_writer r.writers n; readers = without_reader r.readers n });
      reply = Left;
      lets = [];
    } else unchanged r Absent

abbrev pub leave : Record → ℕ → Outcome
leave r n = leave_by free r n
