-- The records of all keys of a table, the sound ones, and one step of such records.
use Rattle.std.specs.Prelude.{ℕ, ◌≡◌, ◌≢◌, if◌then◌else◌, Bool, List, take, filter, Option, Some, None, unwrap_or, true, false, IfSome}
use Rattle.std.specs.Ordering.{nat_cmp, is_lt}
use Rattle.std.specs.Cmp.Lexicographic.{slice_cmp}
use Rattle.std.specs.FinMap.{FinMap, get, insert, remove, keys}
use Rattle.lt_ids.specs.declared.ticket.Through.{Through}
use Rattle.lt_ids.specs.declared.request.Request.{Request}
use Rattle.lt_rules.specs.declared.queued.QueuedRequest.{QueuedRequest}
use Rattle.lt_ids.specs.declared.request.Access.{Access}
use Rattle.lt_rules.specs.declared.call.Call.{Call}
use Rattle.lt_rules.specs.declared.call.Reply.{Reply}
use Rattle.lt_rules.specs.Rules.{Record, empty, is_empty, Outcome, TakesNoMemory}
use Rattle.lt_rules.specs.Visit.{visit}
use Rattle.lt_rules.specs.Step.{step}
use Rattle.lt_rules.specs.Lawful.{IsLawful}

-- the keys that are held, reserved or waited for, as byte lists, each with its record
abbrev pub Records : Type 0
Records = FinMap (slice_cmp nat_cmp) Record

abbrev pub record_at : Records → List ℕ → Record
record_at m key = unwrap_or (get m key) empty

-- the same records, except that this key has record r; an empty record is not kept
abbrev pub with_record : Records → List ℕ → Record → Records
with_record m key r = if is_empty r then remove m key else insert m key r

-- the same records; an empty record at this key is not kept
abbrev pub without_empty : Records → List ℕ → Records
without_empty m key = with_record m key (record_at m key)

-- whether the key comes after this one in byte order; every key comes after none
abbrev pub comes_after : Option (List ℕ) → List ℕ → Bool
comes_after None key = true
comes_after (Some low) key = is_lt (slice_cmp nat_cmp low key)

-- the first keys that have a record and come after this one: at most so many, in byte order
abbrev pub keys_after : Records → Option (List ℕ) → ℕ → List (List ℕ)
keys_after m after at_most = take at_most (filter (comes_after after) (keys m))

-- A record that a table may keep.
pub record IsKept (r : Record) : Type 0 where
  pub filled : is_empty r ≡ false
  pub lawful : IsLawful r

-- Each record is lawful, and none is empty.
abbrev pub AreSound : Records → Type 0
AreSound m = (q : List ℕ) → IfSome (get m q) IsKept

-- The act was applied to the record at the key, with this reply and these lets, and no other key's record changed.
pub record IsStep (old : Records) (key : List ℕ) (act : Record → Outcome) (reply : Reply) (lets : List Through) (new : Records) : Type 0 where
  pub replied : reply ≡ (act (record_at old key)).reply
  pub let_through : lets ≡ (act (record_at old key)).lets
  pub here : record_at new key ≡ (act (record_at old key)).after
  pub others : (q : List ℕ) → q ≢ key → get new q ≡ get old q

-- The act was applied to the record at the key, with these lets and this reply, and no other key's record changed.
-- The first parameter gives the records of a table.
abbrev pub UpdatesKey : {T : Type 0} → (T → Records) → T → T → List ℕ → (Record → Outcome) → List Through → Reply → Type 0
UpdatesKey records old new key act lets = λ reply. IsStep (records old) key act reply lets (records new)

-- This act on the record at the key allocates nothing.
abbrev pub UsesNoMemoryAt : {T : Type 0} → (T → Records) → T → List ℕ → (Record → Outcome) → Type 0
UsesNoMemoryAt records old key act = TakesNoMemory (record_at (records old) key) (act (record_at (records old) key))

-- The pass with this number made this call at the key, with these lets and this reply.
abbrev pub MakesCall : {T : Type 0} → (T → Records) → T → T → List ℕ → ℕ → Call → List Through → Reply → Type 0
MakesCall records old new key pass call lets = UpdatesKey records old new key (λ r. step r pass call) lets

-- the request as a queue entry, with the ticket of this wait
abbrev pub queued_of : Request → ℕ → QueuedRequest
queued_of r wait = record { ticket = record { number = r.number; wait = wait }; txn = r.txn; ts = r.ts; pass = r.pass }

-- the visit of a record by the request, with the ticket of this wait
abbrev pub visit_of : Request → ℕ → Access → Record → Outcome
visit_of request wait access = λ r. visit r (queued_of request wait) request.longest access
