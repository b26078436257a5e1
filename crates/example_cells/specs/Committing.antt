-- What it means that a transaction of the store committed: it held each of its locks at one moment of the table's
-- history, and left its values as it freed them.
use Rattle.std.specs.Prelude.{ℕ, Bool, ⊤, ◌≡◌, ◌≢◌, ◌<◌, ◌++◌, IsPermutation, ◌+◌, Option, Some, None, List, [], ◌∷◌, length, map, take, slice_get}
use Rattle.std.specs.Option.{option_map}
use Rattle.lt_ids.specs.declared.timestamp.Timestamp.{Timestamp}
use Rattle.lt_rules.specs.declared.call.Call.{Call}
use Rattle.lt_rules.specs.declared.call.Call.TheVariants.{Acquire}
use Rattle.lt_rules.specs.declared.call.Reply.{Reply}
use Rattle.lt_rules.specs.declared.call.Reply.TheVariants.{Taken}
use Rattle.std.specs.List.{AllByRecursion}
use mathlib.Core.List.{IsPrefix}
use Rattle.lt_entry.specs.declared.entry.Entry.{Entry}
use Rattle.lt_words.specs.declared.event.Event.{Event}
use Rattle.lt_words.specs.History.{part, shard_of, draws_of, DrewIn}
use Rattle.lt_words.specs.Row.{Opening}
use Rattle.lt_tenure.specs.Tenure.{Tenure, IsHeldAt, IsTwoPhase}
use Rattle.lt_tenure.specs.Committed.{Committed, PointsRise, IsSerial}
use Rattle.example_cells.specs.declared.cell.Cell.{Cell}
use Rattle.example_cells.specs.declared.cell.PastTenure.{PastTenure}
use Rattle.example_cells.specs.declared.committed.LockTenure.{LockTenure}
use Rattle.example_cells.specs.declared.cell.CellReading.{CellReading}
use Rattle.example_cells.specs.Knowing.{CellMap, Put, cell_at, installed, CellsKnow, ReadsCell}

-- the key, the call and the reply of a step
abbrev pub step_outcome : Entry → List ℕ × Call × Reply
step_outcome e = (e.key, e.call, e.reply)

-- In this history, the step at this index of the key's shard is an acquire by which this transaction took the key's lock.
abbrev pub IsTakenAt : ℕ → List ℕ → ℕ → Timestamp → ℕ → List Event → Type 0
IsTakenAt shards key txn ts at seen =
    option_map step_outcome (slice_get (part (shard_of key shards) seen) at) ≡ Some (key, Acquire txn ts, Taken)

-- the tenure of a lock
abbrev pub tenure_of_lock : LockTenure → Tenure
tenure_of_lock t = record { key = t.key; taken = t.taken; freed = t.freed }

-- When the lock of the key was freed, by the step with this index of these of its shard, the cells were told so; and before
-- anybody else could see them, the key's value became what the transaction had put, or stayed if it had put nothing.
pub record Installs (es : List Entry) (key : List ℕ) (freed : ℕ) (put : Option Put) : Type 0 where
  pub cells : CellMap
  pub old : Cell
  pub new : Cell
  pub knew : CellsKnow (take (freed + 1) es) cells
  pub was : cell_at cells key ≡ Some old
  pub after : CellMap
  pub know : CellsKnow (take (freed + 1) es) after
  pub is : cell_at after key ≡ Some new
  pub left : Bool
  pub value : new ≡ installed left put old

-- This tenure is the one of this transaction between these two steps.
abbrev pub IsPast : PastTenure → ℕ → ℕ → ℕ → Type 0
IsPast t txn taken freed = t ≡ record { txn = txn; taken = taken; freed = freed }

-- The transaction held the lock of the key at this point of the history seen, from the step that took it to the step that
-- freed it, and what it had put is the key's value.
pub record IsFreed (shards : ℕ) (seen point : List Event) (key : List ℕ) (txn taken : ℕ) (put : Option Put) (t : LockTenure) : Type 0 where
  pub key_is : t.key ≡ key
  pub taken_is : t.taken ≡ taken
  pub held : IsHeldAt shards seen point txn (tenure_of_lock t)
  pub installs : Installs (part (shard_of key shards) seen) key t.freed put

-- The lock of the key was freed by a step that was seen, and the key's value was then what it was before.
abbrev pub LeavesValue : ℕ → List Event → List ℕ → Type 0
LeavesValue shards seen key =
    (freed : ℕ) × (freed < length (part (shard_of key shards) seen)) × Installs (part (shard_of key shards) seen) key freed None

-- After this many of these steps of the key's shard, exactly, this is what was read of the key.
abbrev pub IsReadAfter : List Entry → ℕ → List ℕ → CellReading → Type 0
IsReadAfter es n key r = (cells : CellMap) × CellsKnow (take n es) cells × ReadsCell (cell_at cells key) r

-- what contracts see of a transaction that committed: its name, the number of its pass, the tenures of its locks; and what
-- its pass had seen before the transaction got its name and afterwards, when the commit began, and when it was done
pub record Commit : Type 0 where
  pub txn : ℕ
  pub pass : ℕ
  pub tenures : List LockTenure
  pub began : List Event
  pub named : List Event
  pub point : List Event
  pub seen : List Event

-- The transaction drew its name, and held all of its locks when the commit began.
pub record IsCommit (of : Opening) (c : Commit) : Type 0 where
  pub began : IsPrefix c.began c.point
  pub above : draws_of c.began < c.txn
  pub counted : draws_of c.named ≡ c.txn
  pub drew : ∥ DrewIn c.named c.pass c.txn ∥₁
  pub named : IsPrefix c.named c.point
  pub two_phase : IsTwoPhase of.shards c.seen c.point c.txn (map tenure_of_lock c.tenures)

-- ---- the transactions that one caller committed

-- what contracts see of a log of commits: the number of the pass, what it had seen when the latest one was done, the
-- transactions, in order, and for how many there is room
pub record LogState : Type 0 where
  pub pass : ℕ
  pub seen : List Event
  pub commits : List Commit
  pub capacity : ℕ

-- The names rise along the list.
abbrev pub NamesRise : List Commit → Type 0
NamesRise [] = ⊤
NamesRise (c ∷ cs) = AllByRecursion (λ d. c.txn < d.txn) cs × NamesRise cs

-- The commit is one of this pass, which has seen it.
pub record IsLogged (of : Opening) (pass : ℕ) (seen : List Event) (c : Commit) : Type 0 where
  pub commit : IsCommit of c
  pub own : c.pass ≡ pass
  pub within : IsPrefix c.seen seen

pub record IsLog (of : Opening) (l : LogState) : Type 0 where
  pub each : AllByRecursion (IsLogged of l.pass l.seen) l.commits
  pub rise : NamesRise l.commits

-- ---- the transactions of all callers

-- a commit in the words of lt_tenure
abbrev pub as_committed : Commit → Committed
as_committed c = record { txn = c.txn; tenures = map tenure_of_lock c.tenures; point = c.point; seen = c.seen }

-- the transactions of these logs
abbrev pub all_commits : List LogState → List Commit
all_commits [] = []
all_commits (l ∷ ls) = l.commits ++ all_commits ls

-- The logs are of different passes.
abbrev pub PassesDiffer : List LogState → Type 0
PassesDiffer [] = ⊤
PassesDiffer (l ∷ ls) = AllByRecursion (λ m. l.pass ≢ m.pass) ls × PassesDiffer ls

-- The transactions of these logs have an order in which their lock points rise, and in which they went one after the other
-- at every key that they share.
abbrev pub WentInOrder : List LogState → Type 0
WentInOrder ls =
    (order : List Committed) × IsPermutation (map as_committed (all_commits ls)) order × PointsRise order × IsSerial order
