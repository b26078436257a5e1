-- The laws of tenures. `AreLegalKeys es` says that the steps of each key are legal; a shard's part of what any pass has
-- seen is such a list.
use Rattle.std.specs.Prelude.{ℕ, true, ◌≡◌, ◌≢◌, ◌<◌, ◌≤◌, ◌⊎◌, Some, None, List, [], ◌∷◌, ◌++◌, length, take, IsPermutation}
use mathlib.Core.List.{IsPrefix}
use Rattle.lt_rules.specs.declared.call.Call.TheVariants.{Finish}
use Rattle.lt_rules.specs.Step.{is_freed}
use Rattle.lt_entry.specs.declared.entry.Entry.{Entry}
use Rattle.lt_entry.specs.Legal.{AreLegalKeys}
use Rattle.lt_words.specs.declared.event.Event.{Event}
use Rattle.lt_words.specs.History.{key_record, MayFollow, IsLegalHistory}
use Rattle.lt_tenure.specs.Tenure.{owner_with, owner_after, lock_owner, freed_after, last_freed, owner_txn, holder_txn, Tenure, TakesAt, FreesAt, IsTenure, IsHeldAt, IsLocked}
use Rattle.lt_tenure.specs.Committed.{Committed, AreCommittedIn, AreOrderedBy, AreApart, PointsRise, IsSerial}

-- ---- the owner

-- The owner that the steps tell is the holder in the record of the rules.
abbrev pub OwnerIsHolder : Type 0
OwnerIsHolder = (key : List ℕ) (es : List Entry) → AreLegalKeys es → owner_txn (lock_owner key es) ≡ holder_txn (key_record key es).holder

-- A lock that is taken had no owner.
abbrev pub TakenWasFree : Type 0
TakenWasFree = (key : List ℕ) (es : List Entry) (txn at : ℕ) → AreLegalKeys es → TakesAt es key txn at → lock_owner key (take at es) ≡ None

-- A lock that is freed was its transaction's own.
abbrev pub FreedWasOwn : Type 0
FreedWasOwn = (key : List ℕ) (es : List Entry) (txn at : ℕ) → AreLegalKeys es → FreesAt es key txn at →
    (taken : ℕ) × (lock_owner key (take at es) ≡ Some (owner_with txn taken))

-- An owner took the lock, by the step that it names.
abbrev pub OwnerTook : Type 0
OwnerTook = (key : List ℕ) (es : List Entry) (txn taken : ℕ) → lock_owner key es ≡ Some (owner_with txn taken) → TakesAt es key txn taken

-- An owner has owned the lock at every point since that step.
abbrev pub OwnedSince : Type 0
OwnedSince = (key : List ℕ) (es : List Entry) (txn taken n : ℕ) → lock_owner key es ≡ Some (owner_with txn taken) → taken < n → n ≤ length es →
    lock_owner key (take n es) ≡ Some (owner_with txn taken)

-- ---- step by step

-- Legal steps and one that may follow them are legal.
abbrev pub NextIsLegal : Type 0
NextIsLegal = (es : List Entry) (e : Entry) → AreLegalKeys es → MayFollow es e → AreLegalKeys (es ++ e ∷ [])

-- The owner after one more step.
abbrev pub OwnerFollows : Type 0
OwnerFollows = (key : List ℕ) (es : List Entry) (e : Entry) → lock_owner key (es ++ e ∷ []) ≡ owner_after key (lock_owner key es) (length es) e

-- The latest step that freed the lock, after one more step.
abbrev pub LastFreedFollows : Type 0
LastFreedFollows = (key : List ℕ) (es : List Entry) (e : Entry) → last_freed key (es ++ e ∷ []) ≡ freed_after key (last_freed key es) (length es) e

-- The step that `last_freed` names freed the lock, and no later one did.
abbrev pub LastFreedIsLast : Type 0
LastFreedIsLast = (key : List ℕ) (es : List Entry) (at : ℕ) → last_freed key es ≡ Some at →
    ((txn : ℕ) × FreesAt es key txn at) × ((k txn : ℕ) → at < k → FreesAt es key txn k → ⊥)

-- One more step that frees a lock ends a tenure of its transaction, which owned the lock until then.
abbrev pub FreeingEndsATenure : Type 0
FreeingEndsATenure = (es : List Entry) (e : Entry) (txn : ℕ) → AreLegalKeys es → MayFollow es e → e.call ≡ Finish txn → is_freed e.reply ≡ true →
    (taken : ℕ) × (lock_owner e.key es ≡ Some (owner_with txn taken)) × IsTenure (es ++ e ∷ []) txn (record { key = e.key; taken = taken; freed = length es })

-- A tenure among these steps is one among more steps.
abbrev pub TenureLasts : Type 0
TenureLasts = (es more : List Entry) (txn : ℕ) (t : Tenure) → IsTenure es txn t → IsTenure (es ++ more) txn t

-- ---- tenures

-- Each step that frees a lock ends a tenure of its transaction.
abbrev pub FreedEndsATenure : Type 0
FreedEndsATenure = (key : List ℕ) (es : List Entry) (txn freed : ℕ) → AreLegalKeys es → FreesAt es key txn freed →
    (taken : ℕ) × IsTenure es txn (record { key = key; taken = taken; freed = freed })

-- A transaction that took a lock and freed it later, and did not free it in between, held it all that time.
abbrev pub HeldUntilFreed : Type 0
HeldUntilFreed = (es : List Entry) (txn : ℕ) (t : Tenure) → AreLegalKeys es → t.taken < t.freed → TakesAt es t.key txn t.taken → FreesAt es t.key txn t.freed →
    ((k : ℕ) → t.taken < k → k < t.freed → FreesAt es t.key txn k → ⊥) → IsTenure es txn t

-- Of two tenures of one key, one ended before the other began, or they are the same tenure of one transaction.
abbrev pub TenuresNeverOverlap : Type 0
TenuresNeverOverlap = (es : List Entry) (txn txn' : ℕ) (t t' : Tenure) → t.key ≡ t'.key → IsTenure es txn t → IsTenure es txn' t' →
    ((txn ≡ txn') × (t ≡ t')) ⊎ ((t.freed < t'.taken) ⊎ (t'.freed < t.taken))

-- ---- moments

-- A lock that a transaction took before a moment of a legal history and freed after it, and did not free in between, it
-- held at that moment, without a break.
abbrev pub LockedIsHeld : Type 0
LockedIsHeld = (shards : ℕ) (h point : List Event) (txn : ℕ) (t : Tenure) → IsLegalHistory shards h → IsLocked shards h point txn t → IsHeldAt shards h point txn t

-- A tenure that was seen stands in every later history, around the same moment.
abbrev pub TenuresStay : Type 0
TenuresStay = (shards : ℕ) (h later point : List Event) (txn : ℕ) (t : Tenure) → IsPrefix h later → IsHeldAt shards h point txn t → IsHeldAt shards later point txn t

-- Of any two moments of one history, one is a prefix of the other.
abbrev pub LockPointsAreAnOrder : Type 0
LockPointsAreAnOrder = (h point point' : List Event) → IsPrefix point h → IsPrefix point' h → IsPrefix point point' ⊎ IsPrefix point' point

-- Of two tenures of one key that different steps began, the one around the earlier moment ended before the other began.
abbrev pub TenuresAreSerial : Type 0
TenuresAreSerial = (shards : ℕ) (h point point' : List Event) (txn txn' : ℕ) (t t' : Tenure) → t.taken ≢ t'.taken → t.key ≡ t'.key →
    IsHeldAt shards h point txn t → IsHeldAt shards h point' txn' t' → IsPrefix point point' → t.freed < t'.taken

-- ---- transactions

-- Committed transactions, no two of which took a lock by the same step, went one after the other at every key that they
-- share, if they are listed in the order of their lock points.
abbrev pub CommittedAreSerial : Type 0
CommittedAreSerial = (shards : ℕ) (h : List Event) (all : List Committed) → AreCommittedIn shards h all → AreOrderedBy AreApart all → PointsRise all → IsSerial all

-- Committed transactions of different names have an order in which their lock points rise. In it they went one after
-- the other at every key that they share.
abbrev pub CommittedAreSerializable : Type 0
CommittedAreSerializable = (shards : ℕ) (h : List Event) (all : List Committed) → AreCommittedIn shards h all → AreOrderedBy (λ a b. a.txn ≢ b.txn) all →
    (order : List Committed) × IsPermutation all order × PointsRise order × IsSerial order
