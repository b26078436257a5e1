-- The effect of a call on a row and its queues.
use Rattle.std.specs.Prelude.{◌≡◌, ◌≢◌, ℕ, Bool, Some, None, List, [], ◌++◌, ◌&&◌, drop, filter, is_none, length, nat_eq, not, slice_get, suc}
use Rattle.std.specs.List.{find}
use Rattle.std.specs.Option.{option_map}
use Rattle.lt_ids.specs.declared.ticket.Through.{Through}
use Rattle.lt_rules.specs.declared.call.Reply.{Reply}
use Rattle.lt_ids.specs.declared.request.Access.{Access}
use Rattle.lt_rules.specs.declared.queued.QueuedRequest.{QueuedRequest}
use Rattle.lt_rules.specs.Rules.{Record, Outcome, IsOutcome, TakesNoMemory, has_txn, is_of, leading, set_back, stop_reading}
use Rattle.lt_rules.specs.Visit.{pass, visit}
use Rattle.lt_rules.specs.Memory.{GrowsRoom}
use Rattle.lt_rules.specs.Lawful.{IsLawful}
use Rattle.lt_links.specs.declared.ids.Queue.{Queue}
use Rattle.lt_links.specs.Maps.{Maps, has_record}
use Rattle.lt_links.specs.declared.stand.Stand.{Stand}
use Rattle.lt_row.specs.declared.row.Row.{Row}
use Rattle.lt_row.specs.Row.{line, record_of, request_of, HasQueues}

-- The queues of other rows are as before.
pub record KeepsOthers (old new : Maps) (id : ℕ) : Type 0 where
  pub lines : (q : Queue) → q.id ≢ id → line new q ≡ line old q
  pub records : (i : ℕ) → has_record new i ≡ has_record old i

-- A row as a table keeps it.
pub record IsRow (m : Maps) (r : Row) : Type 0 where
  pub linked : HasQueues m r.id
  pub lawful : IsLawful (record_of m r)

-- Only the row's queues have changed, and this is the key's record afterwards.
pub record IsRewritten (old new : Maps) (row : Row) (r : Record) : Type 0 where
  pub is : record_of new row ≡ r
  pub linked : HasQueues new row.id
  pub others : KeepsOthers old new row.id

-- The row's step had this outcome, and nothing else has changed.
pub record RowStepped (old new : Maps) (after : Row) (id : ℕ) (outcome : Outcome) (reply : Reply) (lets : List Through) : Type 0 where
  pub same_id : after.id ≡ id
  pub is_outcome : IsOutcome outcome (record_of new after) reply lets
  pub linked : HasQueues new id
  pub others : KeepsOthers old new id

-- The act was applied to the row's record, with these lets and this reply, and nothing else has changed.
abbrev pub UpdatesRow : Maps → Maps → Row → Row → (Record → Outcome) → List Through → Reply → Type 0
UpdatesRow old new row after act lets = λ reply. RowStepped old new after row.id (act (record_of old row)) reply lets

-- This act on the row's record allocates nothing.
abbrev pub RowUsesNoMemory : Maps → Row → (Record → Outcome) → Type 0
RowUsesNoMemory m row act = TakesNoMemory (record_of m row) (act (record_of m row))

-- The request stops reading, and this case of a visit then gives the row's record and the reply, without lets.
abbrev pub VisitsRow : Maps → Maps → Row → Stand → (Record → QueuedRequest → Outcome) → Reply → Type 0
VisitsRow old new row s case = λ reply.
    RowStepped old new row row.id (case (stop_reading (record_of old row) s.number) (request_of s)) reply []

-- This case of a visit allocates nothing, once the request has stopped reading.
abbrev pub RowVisitUsesNoMemory : Maps → Row → Stand → (Record → QueuedRequest → Outcome) → Type 0
RowVisitUsesNoMemory m row s case =
    TakesNoMemory
    (stop_reading (record_of m row) s.number)
    (case (stop_reading (record_of m row) s.number) (request_of s))

-- the visit of a record by the request of this entry
abbrev pub visit_by : Stand → ℕ → Access → Record → Outcome
visit_by s longest access = λ r. visit r (request_of s) longest access

-- the request takes over this reservation, and the request that held it becomes the first writer
abbrev pub taken_over : QueuedRequest → Record → QueuedRequest → Outcome
taken_over reservation = λ r q. pass (record r { reservation = Some q; writers = set_back (Some reservation) ++ r.writers })

-- the record after its first writer, if there is one, has moved to the reservation
abbrev pub with_first_reserved : Record → Record
with_first_reserved r =
    record r { reservation = option_map (λ w. w.request) (slice_get r.writers 0); writers = drop 1 r.writers }

-- the record after the readers have left, and the writers up to the first with a transaction, which now has the
-- reservation
abbrev pub with_next_reserved : Record → Record
with_next_reserved r = record r {
  reservation = option_map (λ w. w.request) (find has_txn r.writers);
  writers = drop (suc (leading r.writers)) r.writers;
  readers = [];
}

-- the record after its reservation has become the first writer, or has left if it is of this transaction
abbrev pub with_set_back : ℕ → Record → Record
with_set_back txn r =
    record r { reservation = None; writers = filter (λ w. not (is_of txn w)) (set_back r.reservation) ++ r.writers }

-- whether nobody is queued at the key or has its reservation
abbrev pub has_nobody : Record → Bool
has_nobody r = is_none r.reservation && nat_eq (length r.writers) 0 && nat_eq (length r.readers) 0

-- No more requests are at the key than before, or there is room for more lets than there were requests.
abbrev pub MakesRoom : Maps → Maps → Row → ℕ → Type 0
MakesRoom old new row room = GrowsRoom (record_of old row) (record_of new row) room
