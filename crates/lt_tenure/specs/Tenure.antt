-- Who owns a key's lock and since which step, read off the steps of the key's shard; and the tenures of a lock.
--
-- Indices count the steps of one shard, from 0: they are those that the answers of a table name. A moment of a
-- history is a prefix of it.
use Rattle.std.specs.Prelude.{ℕ, suc, ◌≡◌, ◌<◌, ◌≤◌, if◌then◌else◌, Option, Some, None, List, [], ◌∷◌, length, take, slice_get}
use Rattle.std.specs.Option.{option_map}
use Rattle.std.specs.Str.{bytes_eq}
use Rattle.std.specs.List.{AllByRecursion}
use mathlib.Core.List.{IsPrefix}
use Rattle.lt_ids.specs.declared.timestamp.Timestamp.{Timestamp}
use Rattle.lt_rules.specs.declared.queued.Holder.{Holder}
use Rattle.lt_rules.specs.declared.call.Call.{Call}
use Rattle.lt_rules.specs.declared.call.Call.TheVariants.{Visit, Acquire, Update, Finish, Leave, Look}
use Rattle.lt_rules.specs.declared.call.Reply.{Reply}
use Rattle.lt_rules.specs.declared.call.Reply.TheVariants.{Taken, Freed}
use Rattle.lt_rules.specs.Step.{is_taken, is_freed}
use Rattle.lt_entry.specs.declared.entry.Entry.{Entry}
use Rattle.lt_words.specs.declared.event.Event.{Event}
use Rattle.lt_words.specs.History.{part, shard_of}

-- ---- the owner of a lock

-- the owner of a lock: the transaction, and the index of the step that took the lock
pub record Owner : Type 0 where
  pub txn : ℕ
  pub taken : ℕ

abbrev pub owner_with : ℕ → ℕ → Owner
owner_with txn taken = record { txn = txn; taken = taken }

-- the owner after the step at this index, which made this call and had this reply; `o` is the owner before it
abbrev pub owner_step : Option Owner → ℕ → Call → Reply → Option Owner
owner_step o at (Visit ticket txn ts access longest) reply = o
owner_step o at (Acquire txn ts) reply = if is_taken reply then Some (owner_with txn at) else o
owner_step o at (Update txn ts) reply = o
owner_step o at (Finish txn) reply = if is_freed reply then None else o
owner_step o at (Leave number) reply = o
owner_step o at (Look number) reply = o

-- the same for the lock of this key, which steps at other keys leave as it is
abbrev pub owner_after : List ℕ → Option Owner → ℕ → Entry → Option Owner
owner_after key o at e = if bytes_eq e.key key then owner_step o at e.call e.reply else o

-- the owner after these steps, the first of which has this index
abbrev pub owner_from : List ℕ → Option Owner → ℕ → List Entry → Option Owner
owner_from key o at [] = o
owner_from key o at (e ∷ es) = owner_from key (owner_after key o at e) (suc at) es

-- the owner of the key's lock after these steps, the first of the key's shard
abbrev pub lock_owner : List ℕ → List Entry → Option Owner
lock_owner key es = owner_from key None 0 es

-- the index of the latest step that freed a lock, after the step at this index, which made this call and had this reply;
-- `o` is the one before it
abbrev pub freed_step : Option ℕ → ℕ → Call → Reply → Option ℕ
freed_step o at (Visit ticket txn ts access longest) reply = o
freed_step o at (Acquire txn ts) reply = o
freed_step o at (Update txn ts) reply = o
freed_step o at (Finish txn) reply = if is_freed reply then Some at else o
freed_step o at (Leave number) reply = o
freed_step o at (Look number) reply = o

-- the same for the lock of this key
abbrev pub freed_after : List ℕ → Option ℕ → ℕ → Entry → Option ℕ
freed_after key o at e = if bytes_eq e.key key then freed_step o at e.call e.reply else o

abbrev pub freed_from : List ℕ → Option ℕ → ℕ → List Entry → Option ℕ
freed_from key o at [] = o
freed_from key o at (e ∷ es) = freed_from key (freed_after key o at e) (suc at) es

-- the index of the latest of these steps, the first of the key's shard, that freed the key's lock
abbrev pub last_freed : List ℕ → List Entry → Option ℕ
last_freed key es = freed_from key None 0 es

-- the transaction of an owner
abbrev pub owner_txn : Option Owner → Option ℕ
owner_txn o = option_map (λ x. x.txn) o

-- the transaction of a record's holder
abbrev pub holder_txn : Option Holder → Option ℕ
holder_txn h = option_map (λ x. x.txn) h

-- ---- tenures

-- a tenure of a key's lock: the indices of the step that took the lock and of the step that freed it
pub record Tenure : Type 0 where
  pub key : List ℕ
  pub taken : ℕ
  pub freed : ℕ

-- The step at this index is an acquire by which the transaction took the key's lock.
abbrev pub TakesAt : List Entry → List ℕ → ℕ → ℕ → Type 0
TakesAt es key txn at = (e : Entry) × (ts : Timestamp) × (slice_get es at ≡ Some e) × (e.key ≡ key) × (e.call ≡ Acquire txn ts) × (e.reply ≡ Taken)

-- The step at this index is a finish by which the transaction freed the key's lock.
abbrev pub FreesAt : List Entry → List ℕ → ℕ → ℕ → Type 0
FreesAt es key txn at = (e : Entry) × (slice_get es at ≡ Some e) × (e.key ≡ key) × (e.call ≡ Finish txn) × (e.reply ≡ Freed)

-- Among these steps of the key's shard, the transaction took the lock at the first index and freed it at the second.
-- In between it owned the lock without a break.
pub record IsTenure (es : List Entry) (txn : ℕ) (t : Tenure) : Type 0 where
  pub took : TakesAt es t.key txn t.taken
  pub freed : FreesAt es t.key txn t.freed
  pub owned : lock_owner t.key (take t.freed es) ≡ Some (owner_with txn t.taken)

-- ---- a moment of a tenure

-- At this moment of the history h the transaction held the lock: its tenure began before the moment, and ended after it.
pub record IsHeldAt (shards : ℕ) (h point : List Event) (txn : ℕ) (t : Tenure) : Type 0 where
  pub tenure : IsTenure (part (shard_of t.key shards) h) txn t
  pub before : t.taken < length (part (shard_of t.key shards) point)
  pub after : length (part (shard_of t.key shards) point) ≤ t.freed

-- What a caller can show of a lock that it took before this moment and freed after it: both steps are in the history,
-- and no step between the two freed the lock for this transaction.
pub record IsLocked (shards : ℕ) (h point : List Event) (txn : ℕ) (t : Tenure) : Type 0 where
  pub took : TakesAt (part (shard_of t.key shards) h) t.key txn t.taken
  pub freed : FreesAt (part (shard_of t.key shards) h) t.key txn t.freed
  pub unbroken : (k : ℕ) → t.taken < k → k < t.freed → FreesAt (part (shard_of t.key shards) h) t.key txn k → ⊥
  pub before : t.taken < length (part (shard_of t.key shards) point)
  pub after : length (part (shard_of t.key shards) point) ≤ t.freed

-- The transaction locked in two phases: at one moment of the history, its lock point, it held all of these locks.
pub record IsTwoPhase (shards : ℕ) (h point : List Event) (txn : ℕ) (tenures : List Tenure) : Type 0 where
  pub within : IsPrefix point h
  pub held : AllByRecursion (IsHeldAt shards h point txn) tenures
