-- A table whose hot key has its record outside of the rows.
use Rattle.std.specs.Prelude.{◌≡◌, ℕ, Bool, false, true, Option, Some, None, List, unwrap_or, IfSome, IfNone}
use Rattle.std.specs.Str.{bytes_eq}
use Rattle.std.specs.FinMap as finmap
use Rattle.lt_ids.specs.declared.ticket.Through.{Through}
use Rattle.lt_rules.specs.declared.call.Call.{Call}
use Rattle.lt_rules.specs.declared.call.Reply.{Reply}
use Rattle.lt_rules.specs.Rules.{Record, empty, is_empty}
use Rattle.lt_rules.specs.Step.{step}
use Rattle.lt_rules.specs.Table.{Records, AreSound, IsKept}

-- whether this is the hot key
abbrev pub is_hot : Option (List ℕ) → List ℕ → Bool
is_hot None key = false
is_hot (Some hot) key = bytes_eq hot key

-- the record of the hot key, or the empty one while there is no hot key
abbrev pub hot_record : Option Record → Record
hot_record kept = unwrap_or kept empty

-- the records of the rows, and that of the hot key
abbrev pub with_hot : Option (List ℕ) → Option Record → Records → Records
with_hot None kept records = records
with_hot (Some hot) kept records = finmap.insert records hot (hot_record kept)

-- The hot key has a record that a table may keep, and no row. While there is no hot key, the record is empty.
pub record IsWithHot (hot : Option (List ℕ)) (kept : Option Record) (records : Records) : Type 0 where
  pub sound : AreSound records
  pub apart : IfSome hot (λ k. finmap.get records k ≡ None)
  pub filled : IfSome hot (λ k. IsKept (hot_record kept))
  pub spare : IfNone hot (hot_record kept ≡ empty)

-- The call was made of the hot key's record. The key stays hot exactly if its record is then not empty.
pub record StepsHot (hot after : Option (List ℕ)) (old new : Record) (pass : ℕ) (call : Call) (lets : List Through) (reply : Reply) : Type 0 where
  pub replied : reply ≡ (step old pass call).reply
  pub let_through : lets ≡ (step old pass call).lets
  pub stays : is_empty (step old pass call).after ≡ false → (after ≡ hot) × (new ≡ (step old pass call).after)
  pub ends : is_empty (step old pass call).after ≡ true → (after ≡ None) × (new ≡ empty)
