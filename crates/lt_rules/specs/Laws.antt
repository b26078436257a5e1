-- The laws of one key, which follow from its rules. Those of legal histories read the holder of a lock off the events
-- alone. So no law presupposes that a lock has only one holder. `PassesAreOfVisits` and `StepKeepsLawful` are about
-- one step of a record.
use Rattle.std.specs.Prelude.{◌≡◌, ◌≢◌, ◌<◌, ◌≤◌, ◌⊎◌, ℕ, true, false, nat_eq, if◌then◌else◌, Option, Some, None, List, [], ◌∷◌, Bool, ◌++◌, IfSome, MatchOption, Contains, map, filter}
use Rattle.lt_ids.specs.declared.timestamp.Timestamp.{Timestamp}
use Rattle.lt_ids.specs.declared.ticket.Through.{Through}
use Rattle.lt_ids.specs.declared.request.Access.{Access}
use Rattle.lt_ids.specs.declared.request.Access.TheVariants.{Read, Write}
use Rattle.lt_ids.specs.Ids.{Wait}
use Rattle.lt_rules.specs.declared.call.Call.{Call}
use Rattle.lt_rules.specs.declared.call.Call.TheVariants.{Visit}
use Rattle.lt_rules.specs.declared.queued.Holder.{Holder}
use Rattle.lt_rules.specs.declared.queued.QueuedRequest.{QueuedRequest}
use Rattle.lt_rules.specs.declared.queued.QueuedWriter.{QueuedWriter}
use Rattle.lt_rules.specs.declared.call.Reply.TheVariants.{Passed, MustWait, Taken, Freed}
use Rattle.lt_rules.specs.Lawful.{IsLawful, numbers}
use Rattle.std.specs.List.{AllByRecursion, IsDistinct, list_any}
use Rattle.lt_rules.specs.Rules.{Record, empty, number_of, writer_number, through_of, has_txn}
use Rattle.lt_rules.specs.Step.{Event, IsLegal, record_after, step, stamp_of, Holds, is_freed, IsBelowOthers, is_visit}

-- No two transactions hold a lock at the same time.
abbrev pub OneHolder : Type 0
OneHolder = (past rest : List Event) (T U : ℕ) → IsLegal (past ++ rest) → Holds past T → Holds past U → T ≡ U

-- The stamp of a transaction by the holder of a record: the holder's timestamp, if the transaction is the holder.
abbrev pub stamp_by : ℕ → Option Holder → Option Timestamp
stamp_by T None = None
stamp_by T (Some h) = if nat_eq h.txn T then Some h.ts else None

-- The record names the holder and its stamp as the events do.
abbrev pub RecordNamesHolder : Type 0
RecordNamesHolder = (past rest : List Event) (T : ℕ) → IsLegal (past ++ rest) → stamp_of T past ≡ stamp_by T (record_after empty past).holder

-- A lock that was taken is freed before it is taken again.
abbrev pub FreedBetween : Type 0
FreedBetween = (past between rest : List Event) (e f : Event) → IsLegal (past ++ e ∷ between ++ f ∷ rest) → e.reply ≡ Taken → f.reply ≡ Taken →
    list_any (λ g. is_freed g.reply) between ≡ true

-- A read passes exactly when the stamp of every other holder is above its timestamp. Otherwise it has to wait.
abbrev pub ReadsPass : Type 0
ReadsPass = (past rest : List Event) (e : Event) (ticket : Wait) (txn : Option ℕ) (ts : Timestamp) (longest : ℕ) →
    IsLegal (past ++ e ∷ rest) → e.call ≡ Visit ticket txn ts Read longest →
    ((e.reply ≡ Passed) × IsBelowOthers past txn ts) ⊎ ((e.reply ≡ MustWait) × (IsBelowOthers past txn ts → ⊥))

-- No request with a smaller number than n holds the reservation or is queued to write.
pub record NoSmaller (r : Record) (n : ℕ) : Type 0 where
  pub reserved : IfSome r.reservation (λ s. n ≤ number_of s)
  pub queued : AllByRecursion (λ w. n ≤ writer_number w) r.writers

-- The request's own transaction holds the lock. This is false for a request without a transaction.
abbrev pub OwnHolds : List Event → Option ℕ → Type 0
OwnHolds past None = ⊥
OwnHolds past (Some txn) = Holds past txn

-- A write passes only if no other transaction holds the lock. Unless its own transaction holds it, also no request
-- with a smaller number holds the reservation or is queued to write.
abbrev pub WritesPass : Type 0
WritesPass = (past rest : List Event) (e : Event) (ticket : Wait) (txn : Option ℕ) (ts : Timestamp) (longest : ℕ) →
    IsLegal (past ++ e ∷ rest) → e.call ≡ Visit ticket txn ts Write longest → e.reply ≡ Passed →
    ((T : ℕ) → Holds past T → txn ≡ Some T) × (OwnHolds past txn ⊎ NoSmaller (record_after empty past) ticket.number)

-- The pass of each request at the key meets the test.
pub record AreOf (p : ℕ → Bool) (r : Record) : Type 0 where
  pub reservation : IfSome r.reservation (λ q. p q.pass ≡ true)
  pub writers : AllByRecursion (λ w. p w.request.pass ≡ true) r.writers
  pub readers : AllByRecursion (λ q. p q.pass ≡ true) r.readers

-- Every request at a key, and every let, has the pass of a visit: if the passes of all requests in a record meet a
-- test, and that of the step does if the step is a visit, then so do the passes of all requests in the record
-- afterwards and of all lets.
abbrev pub PassesAreOfVisits : Type 0
PassesAreOfVisits = (p : ℕ → Bool) (r : Record) (pass : ℕ) (call : Call) → (is_visit call ≡ true → p pass ≡ true) → AreOf p r →
    AreOf p (step r pass call).after × AllByRecursion (λ t. p t.pass ≡ true) (step r pass call).lets

-- Each step keeps a record lawful.
abbrev pub StepKeepsLawful : Type 0
StepKeepsLawful = (r : Record) (pass : ℕ) (call : Call) → IsLawful r → IsLawful (step r pass call).after

-- The record after every prefix of a legal history is lawful.
abbrev pub Lawful : Type 0
Lawful = (past rest : List Event) → IsLegal (past ++ rest) → IsLawful (record_after empty past)

-- The event tells the pass of this let to wait, with its ticket.
pub record TellsToWait (e : Event) (t : Through) : Type 0 where
  pub txn : Option ℕ
  pub ts : Timestamp
  pub access : Access
  pub longest : ℕ
  pub call : e.call ≡ Visit t.ticket txn ts access longest
  pub pass : e.pass ≡ t.pass
  pub reply : e.reply ≡ MustWait

-- The event has no let for this ticket, whichever pass a let names.
abbrev pub Spares : Event → Wait → Type 0
Spares e ticket = AllByRecursion (λ x. x.ticket ≢ ticket) e.lets

-- The pass of the let was told to wait with its ticket, and no event since then let that ticket through.
pub record IsWaiting (past : List Event) (t : Through) : Type 0 where
  pub before : List Event
  pub told : Event
  pub since : List Event
  pub joined : past ≡ before ++ told ∷ since
  pub tells : TellsToWait told t
  pub spared : AllByRecursion (λ e. Spares e t.ticket) since

-- A request that is let through was told to wait, and its ticket was not let through since. One step lets no
-- request through twice.
abbrev pub LetsEndWaits : Type 0
LetsEndWaits = (past rest : List Event) (e : Event) → IsLegal (past ++ e ∷ rest) →
    AllByRecursion (IsWaiting past) e.lets × IsDistinct nat_eq (map (λ t. t.ticket.number) e.lets)

-- The request is that of the writer with the smallest number among those with a transaction; `None` if no writer
-- has one.
abbrev pub IsLeast : List QueuedWriter → Option QueuedRequest → Type 0
IsLeast ws next =
    MatchOption next (AllByRecursion (λ w. has_txn w ≡ false) ws)
    (λ s. Contains (map (λ w. w.request) (filter has_txn ws)) s × AllByRecursion (λ w. has_txn w ≡ true → number_of s ≤ writer_number w) ws)

-- The event lets the writer through, and it is no longer at the key: it neither is queued nor holds the reservation.
pub record IsGone (e : Event) (after : Record) (w : QueuedWriter) : Type 0 where
  pub let_through : Contains e.lets (through_of w.request)
  pub left : list_any (λ n. nat_eq n (writer_number w)) (numbers after) ≡ false

-- After a step that frees the lock, the writer with the smallest number among those with a transaction holds the
-- reservation; if there is none, the lock is not reserved. Every writer without a transaction whose number is
-- below the new reservation's was let through and is no longer at the key. If the lock is not reserved, this holds
-- of every writer without a transaction.
abbrev pub LeastIsNext : Type 0
LeastIsNext = (past rest : List Event) (e : Event) → IsLegal (past ++ e ∷ rest) → e.reply ≡ Freed →
    let before = (record_after empty past).writers in
    let after = record_after empty (past ++ e ∷ []) in
    IsLeast before after.reservation
    × AllByRecursion (λ w. has_txn w ≡ false → IfSome after.reservation (λ s. writer_number w < number_of s) → IsGone e after w) before
