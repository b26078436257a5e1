-- The text of a history: the keys in rising order, each with its entries in their order.
use Rattle.std.specs.Prelude.{ℕ, ◌≡◌, ◌≢◌, ◌↔◌, ◌+◌, Bool, true, List, [], ◌∷◌, map, Contains}
use Rattle.std.specs.Global.{Vec}
use Rattle.std.specs.List.{flat_map, AllByRecursion}
use Rattle.std.specs.Ordering.{nat_cmp, is_lt}
use Rattle.std.specs.Cmp.Lexicographic.{slice_cmp}
use Rattle.lt_entry.specs.declared.entry.Entry.{Entry}
use Rattle.lt_entry.specs.Legal.{event_of, key_part}
use Rattle.lt_checker.specs.Lines.{Parts}
use Rattle.lt_checker.specs.Text.{text_by}
use Rattle.lt_checker.specs.Version.{is_first, is_of_version, IsLegalOf}

-- ---- the keys of a history

-- One key precedes another in byte order.
abbrev pub precedes : List ℕ → List ℕ → Bool
precedes k l = is_lt (slice_cmp nat_cmp k l)

-- Each key precedes all keys after it.
abbrev pub KeysRise : List (List ℕ) → Type 0
KeysRise [] = Unit {0}
KeysRise (key ∷ keys) = AllByRecursion (λ k. precedes key k ≡ true) keys × KeysRise keys

-- These are the keys that have an entry, each once, in rising order.
pub record AreKeysOf (es : List Entry) (keys : List (List ℕ)) : Type 0 where
  pub rise : KeysRise keys
  pub each : (key : List ℕ) → Contains keys key ↔ (key_part key es ≢ [])

-- ---- the text

-- The parts of the line of an entry that is its key's step of this index.
abbrev pub parts_of_entry : ℕ → Entry → Parts
parts_of_entry index e = record {
  key = e.key;
  step = record { index = index; pass = e.pass; call = e.call; reply = e.reply };
  tickets = map (λ t. t.ticket) e.lets;
}

-- The lines of one key's entries; the first line has this index.
abbrev pub lines_from : ℕ → List Entry → List Parts
lines_from index [] = []
lines_from index (e ∷ es) = parts_of_entry index e ∷ lines_from (index + 1) es

-- The lines of these keys, one key after the other.
abbrev pub lines_of : List Entry → List (List ℕ) → List Parts
lines_of es keys = flat_map (λ key. lines_from 1 (key_part key es)) keys

-- The entries of each key are a legal history of that key, by the rules of the version.
abbrev pub AreLegalKeysBy : ℕ → List Entry → Type 0
AreLegalKeysBy version es = (key : List ℕ) → IsLegalOf (is_first version) (map event_of (key_part key es))

-- The entry can occur in a text of the version.
abbrev pub IsEntryOf : ℕ → Entry → Type 0
IsEntryOf version e = is_of_version version e.call e.reply ≡ true

-- The text of these entries in the version: the first line, and then the keys in rising order, each with its
-- entries in their order.
pub record IsTextBy (version : ℕ) (text : List ℕ) (es : List Entry) : Type 0 where
  pub keys : List (List ℕ)
  pub are_keys : AreKeysOf es keys
  pub lines : text ≡ text_by version (lines_of es keys)

-- The text of these entries in the latest version.
abbrev pub IsTextOf : List ℕ → List Entry → Type 0
IsTextOf text es = IsTextBy 2 text es

-- Every text of these entries is this one.
abbrev pub IsOnlyText : List ℕ → List Entry → Type 0
IsOnlyText text es = (other : List ℕ) → IsTextOf other es → text ≡ other

-- The stored entries of all shards, shard after shard.
abbrev pub stored_entries : List (Vec Entry) → List Entry
stored_entries shards = flat_map (λ shard. shard.items) shards
