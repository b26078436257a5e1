-- Which steps may be refused for memory.
use Rattle.std.specs.Prelude.{◌≡◌, ◌<◌, ◌≤◌, ◌⊎◌, ℕ, Bool, true, false, List, length}
use Rattle.lt_rules.specs.declared.call.Call.{Call}
use Rattle.lt_rules.specs.declared.call.Call.TheVariants.{Visit, Acquire, Update, Finish, Leave, Look}
use Rattle.lt_rules.specs.Rules.{Record, is_empty, acquire, update, finish, leave}
use Rattle.lt_rules.specs.Lawful.{numbers}
use Rattle.lt_rules.specs.Table.{Records, record_at}

-- how many requests are at the key: those that are queued, and the one that holds the reservation
abbrev pub how_many : Record → ℕ
how_many r = length (numbers r)

-- Why memory may be refused to a call at this record, by a caller whose list has room for this many lets: the call
-- is a visit, or an acquire of a key that has no record, or the step has more lets than there is room for.
abbrev pub MayLack : Record → Call → ℕ → Type 0
MayLack r (Visit ticket txn ts access longest) room = Unit {0}
MayLack r (Acquire txn ts) room = (is_empty r ≡ true) ⊎ (room < length (acquire r txn ts).lets)
MayLack r (Update txn ts) room = room < length (update r txn ts).lets
MayLack r (Finish txn) room = room < length (finish r txn).lets
MayLack r (Leave number) room = room < length (leave r number).lets
MayLack r (Look number) room = ⊥

-- A list with room for this many lets has room for a let of each request at any one key.
abbrev pub HasRoom : Records → ℕ → Type 0
HasRoom m room = (q : List ℕ) → how_many (record_at m q) ≤ room

-- No more requests are at the key than before, or there is room for more lets than there were requests.
abbrev pub GrowsRoom : Record → Record → ℕ → Type 0
GrowsRoom old new room = (how_many new ≤ how_many old) ⊎ (how_many old < room)

-- The call gives nothing up: it is a visit, or an acquire of a key that has no record.
abbrev pub Begins : Record → Call → Type 0
Begins r (Visit ticket txn ts access longest) = Unit {0}
Begins r (Acquire txn ts) = is_empty r ≡ true
Begins r (Update txn ts) = ⊥
Begins r (Finish txn) = ⊥
Begins r (Leave number) = ⊥
Begins r (Look number) = ⊥

-- whether the call gives something up, or changes nothing: it is neither a visit nor an acquire
abbrev pub gives_up : Call → Bool
gives_up (Visit ticket txn ts access longest) = false
gives_up (Acquire txn ts) = false
gives_up (Update txn ts) = true
gives_up (Finish txn) = true
gives_up (Leave number) = true
gives_up (Look number) = true

-- Where there is room for a let of each request at the key, memory may be refused only to a visit, and to an acquire
-- of a key that has no record.
abbrev pub ReleasesNeedNoMemory : Type 0
ReleasesNeedNoMemory = (r : Record) (call : Call) (room : ℕ) → how_many r ≤ room → MayLack r call room → Begins r call
