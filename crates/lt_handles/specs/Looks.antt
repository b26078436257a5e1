-- What C sees of a table that a handle holds.
use Rattle.std.specs.Prelude.{ℕ, ◌≡◌, List, Option, Some, None}
use Rattle.std.specs.Option.{option_map}
use Rattle.lt_ids.specs.Key.{key_fault}
use Rattle.lt_rules.specs.Step.{look}
use Rattle.lt_rules.specs.Table.{record_at}
use Rattle.lt_handles.specs.declared.shapes.LtKey.{LtKey}
use Rattle.lt_handles.specs.Codes.{key_code, reply_code, reply_txn}
use Rattle.lt_handles.specs.OneTable.{OneTableState}
use Rattle.lt_handles.specs.Shapes.{raw_key}

-- why these bytes are refused as a key
abbrev pub bytes_refusal : List ℕ → Option ℕ
bytes_refusal key = option_map key_code (key_fault key)

-- why a look through this handle is refused
abbrev pub look_refusal : Option OneTableState → List ℕ → Option ℕ
look_refusal None key = Some 1
look_refusal (Some h) key = bytes_refusal key

-- The code and the transaction are those of the answer to a look by the request with this number.
pub record Looks (key : List ℕ) (number code txn : ℕ) (h : OneTableState) : Type 0 where
  pub is_code : code ≡ reply_code (look (record_at h.records key) number)
  pub is_txn : txn ≡ reply_txn (look (record_at h.records key) number)

-- This is what C sees of the key's record.
abbrev pub ShowsKey : List ℕ → LtKey → OneTableState → Type 0
ShowsKey key out h = out ≡ raw_key (record_at h.records key)
