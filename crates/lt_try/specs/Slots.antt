-- The rule of a slot, and what whoever is in its shard holds.
use Rattle.std.specs.Prelude.{ℕ, ◌≡◌, ◌∷◌, [], length, slice_index}
use mathlib.Core.Option.{some, none}
use lib.ListN.{get_elem?}
use Rattle.atomic_table.specs.Table.{State, Me}
use Rattle.lt_shard.specs.Shards.{View}
use Rattle.lt_try.specs.declared.slot.ShardTag.{ShardTag}
use Rattle.lt_words.specs.Row.{Opening}
use Rattle.lt_try.specs.Tags.{IsPlaced, IsTagged, IsTag, SlotState}

-- While the word in the middle is 0, and only then, the shard stands in its slot. It has the tag.
abbrev pub StandsWhileFree : ShardTag → State View ShardTag → Type 0
StandsWhileFree tag s = (length s.words ≡ 16)
    × (slice_index s.words 8 ≡ 0 → (v : View) × (get_elem? s.homes 0 ≡ some (some v)) × IsTagged tag v)
    × (¬ (slice_index s.words 8 ≡ 0) → get_elem? s.homes 0 ≡ some none)

-- The seat holds one shard, and it is so.
abbrev pub HoldsShard : (View → Type 0) → Me View ShardTag → Type 0
HoldsShard is me = (v : View) × (me.1 ≡ (0, v) ∷ []) × is v

-- The slot is that of the book's shard with this index, and the seat has taken that shard.
pub record IsInShard (of : Opening) (max_steps index : ℕ) (slot : SlotState) (me : Me View ShardTag) : Type 0 where
  pub slot_is : IsTag of max_steps index slot.tag
  pub shard_is : HoldsShard (IsPlaced of max_steps index) me
