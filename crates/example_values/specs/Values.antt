-- The log of the values that steps left, the rule that ties its words to it, and what each access of a word tells its caller.
use Rattle.std.specs.Prelude.{ℕ, ◌≡◌, ◌<◌, ◌==◌, ◌&&◌, Bool, true, nat_eq, if◌then◌else◌, List, [], ◌∷◌, Option, Some, None, length, MatchBool, Vec, slice_index_or}
use Rattle.std.specs.List.{AllByRecursion}
use mathlib.Core.List.{IsPrefix}
use Rattle.std.specs.Option.{option_map}
use Rattle.std.specs.Global.{Global}
use Rattle.logbook.specs.Pages.{Cell, cell, Step as Turn, View, Book, Named}
use Rattle.example_values.specs.declared.entry.LeftValue.{LeftValue}

abbrev pub brand_book : Book
brand_book = record { number = 0; log_name = 0; cells_name = 0 }

-- the entry: this step of the shard freed the key's lock, and left this value there
abbrev pub left_at : ℕ → List ℕ → ℕ → Option (Vec ℕ Global) → LeftValue
left_at shard key at value = record { shard = shard; key = key; at = at; value = option_map (λ v. v.items) value }

-- whether the entry is of the step with this index of this shard
abbrev pub is_of_step : ℕ → ℕ → LeftValue → Bool
is_of_step shard at e = nat_eq e.shard shard && nat_eq e.at at

-- what the log says of the step with this index of this shard, if it says anything
abbrev pub said_of : List LeftValue → ℕ → ℕ → Option LeftValue
said_of [] shard at = None
said_of (e ∷ log) shard at = if is_of_step shard at e then Some e else said_of log shard at

-- The rule: there are 64 words, and the word of a shard is above the indices of the shard's entries. So no two entries are of
-- the same step.
pub record WordsBound (cells : List Cell) (log : List LeftValue) : Type 0 where
  pub many : length cells ≡ 64
  pub home : (k : ℕ) → k < length cells → (cell cells k).1 ≡ true
  pub below : AllByRecursion (λ e. e.at < (cell cells e.shard).0) log

-- the word of the book at this index
abbrev pub value_word : Book → ℕ → Named
value_word book shard = record { tracked = true; key = shard; book = book }

-- what contracts see of a word
pub record WordState : Type 0 where
  pub book : Book
  pub shard : ℕ

-- what contracts see of a prefix of the log
pub record ValuesState : Type 0 where
  pub book : Book
  pub log : List LeftValue

-- A load of a word tells nothing but the number.
abbrev pub WordReadGives : Turn LeftValue → View LeftValue ℕ → ℕ → View LeftValue ℕ → Type 0
WordReadGives s v found w = Unit {0}

-- An exchange that found the expected number has appended the entry, and it is what the log then says of its step.
abbrev pub LeaveGives : Turn LeftValue → View LeftValue ℕ → ℕ → View LeftValue ℕ → Type 0
LeaveGives s v found w = MatchBool (found == s.old) (said_of w.0 s.ask.shard s.ask.at ≡ Some s.ask) (Unit {0})

-- What the log says of a step stays, however it grows.
abbrev pub EntriesStay : Type 0
EntriesStay = (log later : List LeftValue) (shard at : ℕ) (e : LeftValue) → IsPrefix log later → said_of log shard at ≡ Some e → said_of later shard at ≡ Some e

-- These words are those of this book, for the shards from 0 on.
abbrev pub AreWords : Book → List WordState → Type 0
AreWords book words = (k : ℕ) (d : WordState) → k < length words → slice_index_or words k d ≡ record { book = book; shard = k }

-- A book has 64 words.
pub record IsValueBook (start : ValuesState) (words : List WordState) : Type 0 where
  pub many : length words ≡ 64
  pub own : AreWords start.book words
