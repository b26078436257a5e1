-- Which shard stands in a slot, and what contracts see of a slot and of a table.
use Rattle.std.specs.Prelude.{ℕ, ◌≡◌, ◌<◌, List, length, slice_index_or}
use Rattle.atomic_table.specs.Seated.{TableId}
use Rattle.lt_words.specs.Row.{Opening}
use Rattle.lt_shard.specs.Shards.{View}
use Rattle.lt_walk.specs.declared.config.Config.{Config}
use Rattle.lt_try.specs.declared.slot.ShardTag.{ShardTag}

-- The shard is the one of the book with this index, and may hold max_steps steps.
pub record IsPlaced (of : Opening) (max_steps index : ℕ) (v : View) : Type 0 where
  pub book_is : v.front.of ≡ of
  pub index_is : v.index ≡ index
  pub limit_is : v.max_steps ≡ max_steps

-- The shard has this tag.
abbrev pub IsTagged : ShardTag → View → Type 0
IsTagged tag v = IsPlaced tag.start.of tag.max_steps tag.index v

-- These shards are the book's, in order.
abbrev pub ArePlaced : Opening → ℕ → List View → Type 0
ArePlaced of max_steps vs = (s : ℕ) (v : View) → s < length vs → IsPlaced of max_steps s (slice_index_or vs s v)

-- The tag is that of the book's shard with this index, which may hold max_steps steps.
pub record IsTag (of : Opening) (max_steps index : ℕ) (tag : ShardTag) : Type 0 where
  pub of_is : tag.start.of ≡ of
  pub number_is : tag.index ≡ index
  pub most_is : tag.max_steps ≡ max_steps

-- what contracts see of a slot: which shard stands there, and which slot it is
pub record SlotState : Type 0 where
  pub tag : ShardTag
  pub id : TableId

-- The slots' tags are those of the book's shards, in order.
abbrev pub AreTags : Opening → ℕ → List SlotState → Type 0
AreTags of max_steps slots = (s : ℕ) (d : SlotState) → s < length slots → IsTag of max_steps s (slice_index_or slots s d).tag

-- what contracts see of a table: the numbers with which it was opened, and its book
pub record TableState : Type 0 where
  pub config : Config
  pub of : Opening
