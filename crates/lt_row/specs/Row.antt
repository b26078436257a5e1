-- Which record a row and its queues in the links stand for.
use Rattle.std.specs.Prelude.{◌≡◌, ◌≤◌, ℕ, true, false, None, List, map, length, slice_get, unwrap_or}
use Rattle.std.specs.Option.{option_map}
use Rattle.std.specs.List.{AllByRecursion}
use Rattle.lt_ids.specs.Ids.{IsNumber, IsWaitNumber}
use Rattle.lt_rules.specs.declared.queued.QueuedRequest.{QueuedRequest}
use Rattle.lt_rules.specs.declared.queued.QueuedWriter.{QueuedWriter}
use Rattle.lt_rules.specs.Rules.{Record, eligible}
use Rattle.lt_links.specs.declared.stand.Stand.{Stand}
use Rattle.lt_links.specs.declared.ids.Queue.{Queue}
use Rattle.lt_links.specs.declared.ids.QueueKind.{QueueKind}
use Rattle.lt_links.specs.declared.ids.QueueKind.TheVariants.{Writers, Readers, Reservation}
use Rattle.lt_links.specs.Maps.{Maps, queue, stand, has_record, IsSound}
use Rattle.lt_row.specs.declared.row.Row.{Row}

-- a queue entry as a request that waits or holds the reservation
abbrev pub request_of : Stand → QueuedRequest
request_of s = record { ticket = record { number = s.number; wait = s.wait }; txn = s.txn; ts = s.ts; pass = s.pass }

-- a queue entry as a request among the writers
abbrev pub writer_of : Stand → QueuedWriter
writer_of s = record { request = request_of s; active = s.active }

abbrev pub no_stand : Stand
no_stand = record { number = 0; txn = None; ts = record { wall = 0; logical = 0 }; pass = 0; wait = 0; active = false }

-- the queue entry at a node, which must have one
abbrev pub stand_at : Maps → ℕ → Stand
stand_at m n = unwrap_or (stand m n) no_stand

-- the queue entries at these nodes
abbrev pub stands_at : Maps → List ℕ → List Stand
stands_at m nodes = map (stand_at m) nodes

-- the entries of a queue, in order
abbrev pub line : Maps → Queue → List Stand
line m q = stands_at m (queue m q)

abbrev pub queue_at : ℕ → QueueKind → Queue
queue_at id kind = record { id = id; kind = kind }

-- the record of a key, according to its row and queues
abbrev pub record_of : Maps → Row → Record
record_of m r = record {
  holder = r.holder;
  reservation = option_map request_of (slice_get (line m (queue_at r.id Reservation)) 0);
  writers = map writer_of (line m (queue_at r.id Writers));
  readers = map request_of (line m (queue_at r.id Readers));
  distinguished = r.distinguished;
}

-- the numbers of the eligible waiters of a key
abbrev pub eligible_at : Maps → Row → List ℕ
eligible_at m r = eligible (record_of m r).reservation (record_of m r).readers (record_of m r).writers

-- The entry's number and wait number are those of a ticket.
abbrev pub IsNamed : Stand → Type 0
IsNamed s = IsNumber s.number × IsWaitNumber s.wait

-- The queues of a row are in the links. At most one request holds the reservation, and each entry has a ticket.
pub record HasQueues (m : Maps) (id : ℕ) : Type 0 where
  pub sound : IsSound m
  pub there : has_record m id ≡ true
  pub one_reservation : length (line m (queue_at id Reservation)) ≤ 1
  pub named : (kind : QueueKind) → AllByRecursion IsNamed (line m (queue_at id kind))
