-- What C is given of the lists of a table that a handle holds.
use Rattle.std.specs.Prelude.{ℕ, ◌≡◌, List, [], ◌∷◌, ◌++◌, Option, Some, None, length, min, map, take, drop}
use Rattle.lt_rules.specs.Table.{keys_after}
use Rattle.lt_handles.specs.declared.shapes.LtKeyName.{LtKeyName}
use Rattle.lt_handles.specs.OneTable.{OneTableState}
use Rattle.lt_handles.specs.Looks.{bytes_refusal}
use Rattle.lt_handles.specs.Shapes.{raw_key_name}

-- The first of these stand in the array, as many as fit, in order, and the rest of the array is as it was. The count is
-- how many there are.
pub record ListsFirst {A B : Type 0} (f : A → B) (all : List A) (array array' : List B) (count : ℕ) : Type 0 where
  pub counted : count ≡ length all
  pub written : array' ≡ map f (take (min (length all) (length array)) all) ++ drop (min (length all) (length array)) array

-- the key after which keys are listed; no bytes stand for none
abbrev pub after_key : List ℕ → Option (List ℕ)
after_key [] = None
after_key (b ∷ bs) = Some (b ∷ bs)

-- why these bytes are refused as such a key
abbrev pub after_refusal : List ℕ → Option ℕ
after_refusal [] = None
after_refusal (b ∷ bs) = bytes_refusal (b ∷ bs)

-- why keys are not listed through this handle
abbrev pub keys_refusal : Option OneTableState → List ℕ → Option ℕ
keys_refusal None after = Some 1
keys_refusal (Some h) after = after_refusal after

-- The first keys after this one stand in the array, as many as fit, in byte order, and the rest of the array is as it
-- was. The count is how many were written.
pub record ListsKeys (h : OneTableState) (after : List ℕ) (array array' : List LtKeyName) (count : ℕ) : Type 0 where
  pub counted : count ≡ length (keys_after h.records (after_key after) (length array))
  pub written : array' ≡ map raw_key_name (keys_after h.records (after_key after) (length array)) ++ drop count array
