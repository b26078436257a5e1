-- Which values are in the log of values: what each cell's latest finish has left.
use Rattle.std.specs.Prelude.{ℕ, ◌≡◌, true, Option, Some, IfSome, List}
use Rattle.logbook.specs.Pages.{Book}
use Rattle.lt_words.specs.History.{shard_of}
use Rattle.example_values.specs.declared.entry.LeftValue.{LeftValue}
use Rattle.example_values.specs.Values.{said_of}
use Rattle.example_cells.specs.declared.cell.Cell.{Cell}
use Rattle.example_cells.specs.declared.cell.CellReading.{CellReading}
use Rattle.example_cells.specs.declared.cell.PastTenure.{PastTenure}
use Rattle.example_cells.specs.declared.committed.LockTenure.{LockTenure}
use Rattle.example_cells.specs.Knowing.{Put, CellMap, cell_at, value_bytes}

-- In this log of values, the step with this index of the key's shard left these bytes at the key, or no value.
abbrev pub LeftAt : ℕ → List LeftValue → List ℕ → ℕ → Option (List ℕ) → Type 0
LeftAt shards log key at bytes = said_of log (shard_of key shards) at ≡ Some (record { shard = shard_of key shards; key = key; at = at; value = bytes })

-- If the cell says so, its value is in the log, as what the finish left that ended the last tenure.
abbrev pub IsCellLeft : ℕ → List LeftValue → List ℕ → Cell → Type 0
IsCellLeft shards log key c = (t : PastTenure) → c.left ≡ true → c.last ≡ Some t → LeftAt shards log key t.freed (value_bytes c.value)

abbrev pub AreCellsLeft : ℕ → List LeftValue → CellMap → Type 0
AreCellsLeft shards log cells = (key : List ℕ) (c : Cell) → cell_at cells key ≡ Some c → IsCellLeft shards log key c

-- If the reading says so, what was read is in the log, as what the finish left that ended the last tenure.
abbrev pub IsReadingLeft : ℕ → List LeftValue → List ℕ → CellReading → Type 0
IsReadingLeft shards log key r = (t : PastTenure) → r.left ≡ true → r.last ≡ Some t → LeftAt shards log key t.freed (value_bytes r.value)

-- What was put is in the log that was seen, as what the step left that freed the lock.
pub record IsPutLeft (shards : ℕ) (values : Book) (put : Option Put) (t : LockTenure) : Type 0 where
  pub book : t.values.book ≡ values
  pub left : IfSome put (λ p. LeftAt shards t.values.log t.key t.freed (value_bytes p))

-- No step left two values at a key.
abbrev pub OneValue : ℕ → List LeftValue → Type 0
OneValue shards log = (key : List ℕ) (at : ℕ) (v w : Option (List ℕ)) → LeftAt shards log key at v → LeftAt shards log key at w → v ≡ w
