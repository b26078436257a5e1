-- The shards of a table, each in its slot.
use Rattle.std.proofs.Common.{◌≡◌, ◌∙◌, ℕ, ◌<◌, List, [], ◌∷◌, ◌++◌, length, length-append, get_or, refl, subst, sym, arith}
use Rattle.lt_words.specs.Row.{Opening}
use Rattle.lt_shard.specs.Shards.{View}
use Rattle.atomic_table.specs.Table.{Me}
use Rattle.lt_try.specs.declared.slot.ShardTag.{ShardTag}
use Rattle.lt_try.specs.Tags.{IsPlaced, IsTagged, ArePlaced, IsTag, SlotState, AreTags}
use Rattle.lt_try.specs.Slots.{HoldsShard, IsInShard}
use Rattle.lt_walk.proofs.Ends.{at_each}

-- what has a slot's tag is the shard of the slot's index
pub placed_by_tag : (of : Opening) (max_steps : ℕ) (slots : List SlotState) (s : ℕ) (slot : SlotState) (v : View) → AreTags of max_steps slots → s < length slots → slot ≡ get_or slots s slot → IsTagged slot.tag v → IsPlaced of max_steps s v
placed_by_tag of max_steps slots s slot v each lt is lives =
    let here : IsTag of max_steps s slot.tag = subst (λ (x : SlotState). IsTag of max_steps s x.tag) (sym is) (each s slot lt) in record {
      book_is = lives.book_is ∙ here.of_is;
      index_is = lives.index_is ∙ here.number_is;
      limit_is = lives.limit_is ∙ here.most_is;
    }

-- one more shard
pub one_more : (of : Opening) (max_steps : ℕ) (vs ws : List View) (v : View) → ArePlaced of max_steps vs → ws ≡ vs ++ v ∷ [] → IsPlaced of max_steps (length vs) v → ArePlaced of max_steps ws
one_more of max_steps vs ws v each grown last =
    subst (ArePlaced of max_steps) (sym grown) (λ s d lt. at_each (IsPlaced of max_steps) vs v (length vs) refl each last s d (omega (arith, lt, length-append vs (v ∷ []))))

-- the shard at an index
pub placed_at : (of : Opening) (max_steps : ℕ) (vs : List View) (k : ℕ) (v : View) → ArePlaced of max_steps vs → k < length vs → v ≡ get_or vs k v → IsPlaced of max_steps k v
placed_at of max_steps vs k v placed lt is = subst (IsPlaced of max_steps k) (sym is) (placed k v lt)

-- whoever took the shard from the slot at an index is in the shard with this index
pub entered_at : (of : Opening) (max_steps : ℕ) (slots : List SlotState) (k : ℕ) (slot : SlotState) (me : Me View ShardTag) → AreTags of max_steps slots → k < length slots → slot ≡ get_or slots k slot → HoldsShard (IsTagged slot.tag) me → IsInShard of max_steps k slot me
entered_at of max_steps slots k slot me each lt is held = record {
  slot_is = subst (λ (x : SlotState). IsTag of max_steps k x.tag) (sym is) (each k slot lt);
  shard_is = (held.0, held.1, placed_by_tag of max_steps slots k slot held.0 each lt is held.2);
}
