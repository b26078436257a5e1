-- Entries in the order of their keys, and their lines.
use Rattle.std.specs.Prelude.{ℕ, ◌≡◌, ◌+◌, false, if◌then◌else◌, List, [], ◌∷◌, ◌++◌, map}
use Rattle.std.specs.List.{flat_map}
use Rattle.std.specs.Str.{bytes_eq}
use Rattle.lt_entry.specs.declared.entry.Entry.{Entry}
use Rattle.lt_checker.specs.Lines.{Parts, line_text}
use Rattle.lt_checker.specs.Histories.{precedes, parts_of_entry}
use Rattle.lt_entry.specs.Legal.{key_part}

-- No entry's key precedes the key of the entry before it, and the first entry's key does not precede this key.
abbrev pub RiseFrom : List ℕ → List Entry → Type 0
RiseFrom key [] = Unit {0}
RiseFrom key (e ∷ es) = (precedes e.key key ≡ false) × RiseFrom e.key es

-- Seen through `view`, the new list is the old one and then these values.
abbrev pub AppendsBy : {A B : Type 0} → (A → B) → List A → List A → List B → Type 0
AppendsBy view old new xs = map view new ≡ map view old ++ xs

-- Each key has the same entries in both lists, in the same order.
abbrev pub HaveSameParts : List Entry → List Entry → Type 0
HaveSameParts es others = (key : List ℕ) → key_part key es ≡ key_part key others

-- The index of an entry of `key`, if the previous entry has the key `before` and this index.
abbrev pub next_index : List ℕ → ℕ → List ℕ → ℕ
next_index before index key = if bytes_eq key before then index + 1 else 1

-- The lines of these entries, if the previous entry has this key and index.
abbrev pub lines_after : List ℕ → ℕ → List Entry → List Parts
lines_after key index [] = []
lines_after key index (e ∷ es) = parts_of_entry (next_index key index e.key) e ∷ lines_after e.key (next_index key index e.key) es

-- The text of the lines of these entries, which are in the order of their keys.
abbrev pub lines_text : List Entry → List ℕ
lines_text es = flat_map line_text (lines_after [] 0 es)
