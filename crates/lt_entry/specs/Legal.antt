-- The legal histories.
--
-- A history is a list of entries, in the order of their steps. The steps of different keys may be interleaved in
-- any way: whether the history is legal depends only on the key_part of each key.
use Rattle.std.specs.Prelude.{ℕ, List, map, filter}
use Rattle.std.specs.Str.{bytes_eq}
use Rattle.lt_rules.specs.Step.{Event, IsLegal}
use Rattle.lt_entry.specs.declared.entry.Entry.{Entry}

-- the entry as a step in its key's history
abbrev pub event_of : Entry → Event
event_of e = record { pass = e.pass; call = e.call; reply = e.reply; lets = e.lets }

-- the entries of a key, in their order
abbrev pub key_part : List ℕ → List Entry → List Entry
key_part key es = filter (λ e. bytes_eq e.key key) es

-- For each key, its entries are a legal history of that key.
abbrev pub AreLegalKeys : List Entry → Type 0
AreLegalKeys es = (key : List ℕ) → IsLegal (map event_of (key_part key es))
