-- A visit: its cases, and the outcome of each. Quotation marks enclose row names of the table of visits in
-- docs/RULES.md.
use Rattle.std.specs.Prelude.{ℕ, Bool, true, not, ◌&&◌, nat_eq, nat_lt, nat_le, if◌then◌else◌, Option, Some, None, List, [], ◌∷◌, ◌++◌, length}
use Rattle.std.specs.List.{list_any, prefix_len}
use Rattle.std.specs.Ordering.{nat_cmp, match_ordering}
use Rattle.lt_ids.specs.declared.request.Access.{Access}
use Rattle.lt_ids.specs.declared.request.Access.TheVariants.{Read, Write}
use Rattle.lt_ids.specs.Ids.{is_below}
use Rattle.lt_rules.specs.declared.queued.Holder.{Holder}
use Rattle.lt_rules.specs.declared.queued.QueuedRequest.{QueuedRequest}
use Rattle.lt_rules.specs.declared.queued.QueuedWriter.{QueuedWriter}
use Rattle.lt_rules.specs.declared.call.Reply.TheVariants.{Passed, MustWait, TooLong}
use Rattle.lt_rules.specs.Rules.{Record, number_of, writer_number, is_txn, Outcome, unchanged, settle, stop_reading, set_back}

-- a writer that waits
abbrev pub waiting : QueuedRequest → QueuedWriter
waiting q = record { request = q; active = true }

abbrev pub is_queued : List QueuedWriter → ℕ → Bool
is_queued writers n = list_any (λ w. nat_eq (writer_number w) n) writers

-- how many writers come before the request
abbrev pub position : List QueuedWriter → QueuedRequest → ℕ
position writers q = prefix_len (λ w. nat_lt (writer_number w) (number_of q)) writers

-- The writers with the request at its position, ordered by number. If the request is among them already, its entry
-- is replaced by this visit, active. Otherwise it is inserted before the first greater number, active.
abbrev pub enqueue : List QueuedWriter → QueuedRequest → List QueuedWriter
enqueue [] q = waiting q ∷ []
enqueue (w ∷ ws) q = match_ordering (nat_cmp (number_of q) (writer_number w)) (waiting q ∷ w ∷ ws) (waiting q ∷ ws) (w ∷ enqueue ws q)

-- the request passes
abbrev pub pass : Record → Outcome
pass r = unchanged r Passed

-- the request has to wait, with this record
abbrev pub wait : Record → Outcome
wait r = unchanged r MustWait

abbrev pub wait_to_write : Record → QueuedRequest → Outcome
wait_to_write r q = wait (record r { writers = enqueue r.writers q })

-- The writers are too many for the request: it has a bound, it is not among them, and they are at least as many as
-- the bound, active or not. The reservation does not count.
abbrev pub is_too_long : List QueuedWriter → QueuedRequest → ℕ → Bool
is_too_long writers q longest = nat_lt 0 longest && nat_le longest (length writers) && not (is_queued writers (number_of q))

-- The request joins the writers, unless they are too many for it: the three "write" rows of "held by another".
abbrev pub join_writers : Record → QueuedRequest → ℕ → Outcome
join_writers r q longest = if is_too_long r.writers q longest then unchanged r TooLong else wait_to_write r q

-- A request that is among the writers already waits there, even if it now only reads. Any other request goes to
-- the front of the readers.
abbrev pub wait_to_read : Record → QueuedRequest → Outcome
wait_to_read r q =
    if is_queued r.writers (number_of q) then wait_to_write r q
    else wait (record r { readers = q ∷ r.readers })

-- "Held by another": a read passes exactly when its timestamp is below the lock's.
abbrev pub visit_held : Record → Holder → QueuedRequest → ℕ → Access → Outcome
visit_held r h q longest Read = if is_below q.ts h.ts then pass r else wait_to_read r q
visit_held r h q longest Write = join_writers r q longest

-- "Reserved for a greater number": a request with a transaction takes over the reservation. A request without one
-- passes, and the reservation stays.
abbrev pub displace : Option ℕ → Record → QueuedRequest → QueuedRequest → Outcome
displace None r reservation q = pass r
displace (Some txn) r reservation q = pass (record r { reservation = Some q; writers = set_back (Some reservation) ++ r.writers })

-- "Reserved": a write compares its number with the reservation's, which is greater, equal ("this very request") or
-- smaller.
abbrev pub visit_reserved : Record → QueuedRequest → QueuedRequest → ℕ → Access → Outcome
visit_reserved r reservation q longest Read = pass r
visit_reserved r reservation q longest Write =
    match_ordering (nat_cmp (number_of q) (number_of reservation))
    (displace q.txn r reservation q)
    (pass r)
    (join_writers r q longest)

-- in this order: "free", "reserved", "held by the request's own transaction" and "held by another"
abbrev pub visit_lock : Option Holder → Option QueuedRequest → Record → QueuedRequest → ℕ → Access → Outcome
visit_lock None None r q longest access = pass r
visit_lock None (Some reservation) r q longest access = visit_reserved r reservation q longest access
visit_lock (Some h) reservation r q longest access = if is_txn q.txn h.txn then pass r else visit_held r h q longest access

-- the case of a visit that this record's holder and reservation select
abbrev pub visit_case : Record → QueuedRequest → ℕ → Access → Outcome
visit_case r q longest access = visit_lock r.holder r.reservation r q longest access

-- the outcome, with its record settled
abbrev pub settled : Outcome → Outcome
settled o = record o { after = settle o.after }

-- A request visits the key. If it was waiting to read, it first stops. It joins the writers only if they are fewer
-- than `longest`, unless that is 0.
abbrev pub visit : Record → QueuedRequest → ℕ → Access → Outcome
visit r q longest access = settled (visit_lock r.holder r.reservation (stop_reading r (number_of q)) q longest access)
