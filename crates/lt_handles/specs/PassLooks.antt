-- What C sees of a key through a pass of a shared table.
use Rattle.std.specs.Prelude.{ℕ, ◌≡◌, ◌++◌, List, length, map, drop, nat_lt, if◌then◌else◌, Option, Some, None}
use Rattle.std.specs.Arc.{arc_value}
use Rattle.lt_rules.specs.Rules.{Record}
use Rattle.lt_words.specs.History.{part}
use Rattle.lt_words.specs.Row.{PassState, SeesMore}
use Rattle.lt_shard.specs.Shards.{AreLockedKeysAfter}
use Rattle.lt_handles.specs.declared.held_shared.HeldPass.{HeldPass}
use Rattle.lt_handles.specs.declared.shapes.LtKey.{LtKey}
use Rattle.lt_handles.specs.declared.shapes.LtKeyName.{LtKeyName}
use Rattle.lt_handles.specs.declared.shapes.LtQueued.{LtQueued}
use Rattle.lt_handles.specs.Lists.{ListsFirst, after_key, after_refusal}
use Rattle.lt_handles.specs.Shapes.{raw_key, raw_key_name, raw_writer, raw_reader}
use Rattle.lt_handles.specs.Shared.{SeesRecord}

-- The pass saw this record of the key, which C sees, with the first of its writers and readers, as many as fit.
pub record ShowsRecord (key : List ℕ) (out : LtKey) (writers writers' readers readers' : List LtQueued) (p p' : PassState) : Type 0 where
  pub state : Record
  pub seen : SeesRecord key state p p'
  pub shown : out ≡ raw_key state
  pub first_writers : ListsFirst raw_writer state.writers writers writers' (length state.writers)
  pub first_readers : ListsFirst raw_reader state.readers readers readers' (length state.readers)

-- The pass has then seen steps after which these are the first keys of the shard that have a record and come after this one, at
-- most so many. Nothing else has changed.
pub record SeesKeys (shard : ℕ) (after : List ℕ) (at_most : ℕ) (keys : List (List ℕ)) (p p' : HeldPass) : Type 0 where
  pub have_records : AreLockedKeysAfter (part shard p'.pass.seen) (after_key after) at_most keys
  pub more : SeesMore p.pass p'.pass
  pub same_wants : p'.wants.items ≡ p.wants.items
  pub same_table : (arc_value p'.table) ≡ (arc_value p.table)

-- These keys, as many as fit, stand in the array, and the rest of the array is as it was. The count is how many there are.
pub record ListsShard (shard : ℕ) (after : List ℕ) (array array' : List LtKeyName) (count : ℕ) (p p' : HeldPass) : Type 0 where
  pub keys : List (List ℕ)
  pub seen : SeesKeys shard after (length array) keys p p'
  pub counted : count ≡ length keys
  pub written : array' ≡ map raw_key_name keys ++ drop count array

-- why a pass is not given the keys of the shard with this index: there is none, or these bytes are no key
abbrev pub keys_refusal_at : Option HeldPass → ℕ → List ℕ → Option ℕ
keys_refusal_at None shard after = Some 1
keys_refusal_at (Some p) shard after = if nat_lt shard p.pass.of.shards then after_refusal after else Some 27
