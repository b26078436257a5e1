-- What a transaction knows of a lock that it has taken.
use Rattle.std.specs.Prelude.{ℕ, ◌≡◌, ◌≢◌, ◌+◌, ◌<◌, List, Option, Result, IfOk, length, position, slice_get}
use Rattle.std.specs.Option.{option_and_then}
use Rattle.std.specs.Str.{bytes_eq}
use Rattle.lt_words.specs.declared.event.Event.{Event}
use Rattle.lt_words.specs.History.{part, shard_of}
use Rattle.example_cells.specs.declared.cell.CellReading.{CellReading}
use Rattle.example_cells.specs.Committing.{IsReadAfter}
use Rattle.example_cells.specs.Knowing.{Put}
use Rattle.example_cells.specs.Leaving.{IsReadingLeft}
use Rattle.example_values.specs.declared.entry.LeftValue.{LeftValue}

-- The lock is of this key and this transaction, and what was read, if it was, is what the steps of the key's shard up to the
-- acquire have left. The log of values has it, as what the last tenure left, if the reading says so.
pub record IsLockOf {E : Type 0} (shards : ℕ) (key : List ℕ) (txn : ℕ) (its_key : List ℕ) (its_txn : ℕ) (seen : List Event) (taken : ℕ) (log : List LeftValue) (reading : Result CellReading E) : Type 0 where
  pub key_is : its_key ≡ key
  pub txn_is : its_txn ≡ txn
  pub read : IfOk reading (IsReadAfter (part (shard_of key shards) seen) (taken + 1) key)
  pub left : IfOk reading (IsReadingLeft shards log key)

-- This was read of the key under a lock that was then taken: what the steps of the key's shard up to the acquire have left.
-- The log of values has it, as what the last tenure left, if the reading says so.
pub record IsLockedRead (shards : ℕ) (key : List ℕ) (seen : List Event) (taken : ℕ) (log : List LeftValue) (r : CellReading) : Type 0 where
  pub after : IsReadAfter (part (shard_of key shards) seen) (taken + 1) key r
  pub left : IsReadingLeft shards log key r

-- A transaction that held the old locks holds the new ones: each is where it was, and what was put at its key stays.
abbrev pub LocksStay : {L : Type 0} → List L → List L → Type 0
LocksStay old new = (j : ℕ) → j < length old → slice_get new j ≡ slice_get old j

-- the same, but for the lock with this index
abbrev pub OthersStay : {L : Type 0} → List L → List L → ℕ → Type 0
OthersStay old new i = (j : ℕ) → j ≢ i → j < length old → slice_get new j ≡ slice_get old j

-- what was put at the key, if one of these locks is of the key and anything was
abbrev pub own_put : {L : Type 0} → (L → List ℕ) → (L → Option Put) → List ℕ → List L → Option Put
own_put key_of put_of key locks = option_and_then (λ i. option_and_then put_of (slice_get locks i)) (position (λ l. bytes_eq (key_of l) key) locks)
