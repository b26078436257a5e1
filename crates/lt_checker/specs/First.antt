-- The rules of the first version, in which each request has a transaction and none has a bound: what a visit does,
-- and what happens when a lock comes free. All other rules are the same in both versions, and the bound of a visit
-- is ignored here. Which records can come about is defined with the rules of the second version.
use Rattle.std.specs.Prelude.{◌≡◌, ◌↔◌, ℕ, Bool, true, false, nat_eq, if◌then◌else◌, Option, Some, None, List, [], ◌++◌, map, drop, take, slice_get, is_some}
use Rattle.std.specs.List.{AllByRecursion}
use Rattle.std.specs.Option.{option_map}
use Rattle.std.specs.Ordering.{nat_cmp, match_ordering}
use Rattle.lt_ids.specs.declared.request.Access.{Access}
use Rattle.lt_ids.specs.declared.request.Access.TheVariants.{Read, Write}
use Rattle.lt_ids.specs.Ids.{is_below}
use Rattle.lt_rules.specs.declared.queued.Holder.{Holder}
use Rattle.lt_rules.specs.declared.queued.QueuedRequest.{QueuedRequest}
use Rattle.lt_rules.specs.declared.call.Call.{Call}
use Rattle.lt_rules.specs.declared.call.Call.TheVariants.{Visit}
use Rattle.lt_rules.specs.declared.call.Reply.{Reply}
use Rattle.lt_rules.specs.Rules.{Record, empty, number_of, through_of, is_txn, Outcome, settle, stop_reading, set_back, active_requests}
use Rattle.lt_rules.specs.Visit.{pass, wait_to_write, wait_to_read, settled}
use Rattle.lt_rules.specs.Step.{Event, IsLegal, IsLegalBy, step_by}

-- The lock has just lost its holder or its reservation: all readers are let through. The first writer gets the
-- reservation, and is let through if it is active.
abbrev pub free : Record → Reply → Outcome
free r reply = record {
  after = settle (record r { reservation = option_map (λ w. w.request) (slice_get r.writers 0); writers = drop 1 r.writers; readers = [] });
  reply = reply;
  lets = map through_of (r.readers ++ active_requests (take 1 r.writers));
}

-- A visit to a lock that another transaction holds.
abbrev pub visit_held : Record → Holder → QueuedRequest → Access → Outcome
visit_held r h q Read = if is_below q.ts h.ts then pass r else wait_to_read r q
visit_held r h q Write = wait_to_write r q

-- A request with a smaller number takes the reservation over.
abbrev pub displace : Record → QueuedRequest → QueuedRequest → Outcome
displace r reservation q = pass (record r { reservation = Some q; writers = set_back (Some reservation) ++ r.writers })

-- A visit to a lock that is reserved and not held.
abbrev pub visit_reserved : Record → QueuedRequest → QueuedRequest → Access → Outcome
visit_reserved r reservation q Read = pass r
visit_reserved r reservation q Write =
    match_ordering (nat_cmp (number_of q) (number_of reservation))
    (displace r reservation q)
    (pass r)
    (wait_to_write r q)

abbrev pub visit_lock : Option Holder → Option QueuedRequest → Record → QueuedRequest → Access → Outcome
visit_lock None None r q access = pass r
visit_lock None (Some reservation) r q access = visit_reserved r reservation q access
visit_lock (Some h) reservation r q access = if is_txn q.txn h.txn then pass r else visit_held r h q access

-- A request visits the key. If it is waiting to read, it first stops waiting.
abbrev pub visit : Record → QueuedRequest → Access → Outcome
visit r q access = settled (visit_lock r.holder r.reservation (stop_reading r (number_of q)) q access)

-- One step of a record, by a call of this pass.
abbrev pub step : Record → ℕ → Call → Outcome
step r pass call = step_by (λ r q longest access. visit r q access) free r pass call

abbrev pub IsLegalFirst : List Event → Type 0
IsLegalFirst es = IsLegalBy step empty es

-- A call of the first version: a visit has a transaction and no bound.
abbrev pub is_of_first : Call → Bool
is_of_first (Visit ticket txn ts access longest) = if is_some txn then nat_eq longest 0 else false
is_of_first _ = true

-- A history whose visits all have a transaction and no bound is legal exactly if it was legal by the rules of the
-- first version.
abbrev pub FirstRulesHold : Type 0
FirstRulesHold = (es : List Event) → AllByRecursion (λ e. is_of_first e.call ≡ true) es → IsLegal es ↔ IsLegalFirst es
