-- What a call does to the table that a handle holds, and to what C handed in.
use Rattle.std.specs.Prelude.{ℕ, ◌≡◌, ◌≤◌, ◌++◌, List, Option, Some, None, length, min, map, take, drop, nat_eq, if◌then◌else◌}
use Rattle.std.specs.Option.{option_map}
use Rattle.lt_ids.specs.declared.ticket.Through.{Through}
use Rattle.lt_ids.specs.Key.{key_fault}
use Rattle.lt_rules.specs.declared.call.Reply.{Reply}
use Rattle.lt_rules.specs.Rules.{Record, Outcome, TakesNoMemory}
use Rattle.lt_rules.specs.Memory.{Begins}
use Rattle.lt_rules.specs.declared.call.Call.{Call}
use Rattle.lt_rules.specs.Table.{IsStep, record_at}
use Rattle.lt_handles.specs.declared.shapes.LtThrough.{LtThrough}
use Rattle.lt_handles.specs.declared.shapes.LtRequest.{LtRequest}
use Rattle.lt_handles.specs.Calls.{visit_fault}
use Rattle.lt_handles.specs.Codes.{key_code, reply_code}
use Rattle.lt_handles.specs.OneTable.{OneTableState}
use Rattle.lt_handles.specs.Shapes.{raw_let}

-- The act was applied to the record at the key, with this reply, and all its lets are left to give.
abbrev pub StepsHeld : OneTableState → OneTableState → List ℕ → (Record → Outcome) → Reply → Type 0
StepsHeld before after key act = λ reply. IsStep before.records key act reply after.lets after.records

-- As many of the lets that were left as fit stand in the array, in order, and the others are left. The rest of the
-- array and the table are as they were.
pub record GivesLets (array array' : List LtThrough) (count : ℕ) (before after : OneTableState) : Type 0 where
  pub counted : count ≡ min (length before.lets) (length array)
  pub written : array' ≡ map raw_let (take count before.lets) ++ drop count array
  pub left : after.lets ≡ drop count before.lets
  pub same_records : after.records ≡ before.records

-- The act was applied to the record at the key. The code is that of its reply, and its lets were given.
pub record MakesStep
    (key : List ℕ) (act : Record → Outcome) (code : ℕ) (array array' : List LtThrough) (count : ℕ) (before after : OneTableState)
    : Type 0 where
  pub reply : Reply
  pub lets : List Through
  pub is_step : IsStep before.records key act reply lets after.records
  pub is_code : code ≡ reply_code reply
  pub counted : count ≡ min (length lets) (length array)
  pub written : array' ≡ map raw_let (take count lets) ++ drop count array
  pub left : after.lets ≡ drop count lets

-- What C handed in for the answer is as it was.
abbrev pub KeepsOut : List LtThrough → List LtThrough → ℕ → ℕ → Type 0
KeepsOut array array' count count' = (array' ≡ array) × (count' ≡ count)

-- why a step at the key with these bytes is refused: lets are left, or the bytes are no key
abbrev pub held_refusal : OneTableState → List ℕ → Option ℕ
held_refusal h key = if nat_eq (length h.lets) 0 then option_map key_code (key_fault key) else Some 4

-- why a step through this handle is refused: the handle is closed, or as above
abbrev pub step_refusal : Option OneTableState → List ℕ → Option ℕ
step_refusal None key = Some 1
step_refusal (Some h) key = held_refusal h key

-- The handle is open, and this holds of what it holds.
abbrev pub OnTable : (OneTableState → Type 0) → Option OneTableState → Type 0
OnTable P None = ⊥
OnTable P (Some h) = P h

-- The handle was open, it is open, and this holds of what it held and what it holds.
abbrev pub OnHandle : (OneTableState → OneTableState → Type 0) → Option OneTableState → Option OneTableState → Type 0
OnHandle P (Some before) (Some after) = P before after
OnHandle P _ _ = ⊥

-- the same for a step of a transaction, which is not 0
abbrev pub txn_refusal : ℕ → Option OneTableState → List ℕ → Option ℕ
txn_refusal txn handle key = if nat_eq txn 0 then Some 8 else step_refusal handle key

-- the first of two reasons
abbrev pub first_refusal : Option ℕ → Option ℕ → Option ℕ
first_refusal (Some code) next = Some code
first_refusal None next = next

-- the same for a visit, whose numbers are in their ranges
abbrev pub visit_refusal : LtRequest → Option OneTableState → List ℕ → Option ℕ
visit_refusal request handle key = first_refusal (visit_fault request) (step_refusal handle key)

-- A step with this act allocates nothing: the key is stored without an allocation, and so is what the step changes.
pub record AllocatesNothing (key : List ℕ) (act : Record → Outcome) (h : OneTableState) : Type 0 where
  pub short_key : length key ≤ 22
  pub small_step : TakesNoMemory (record_at h.records key) (act (record_at h.records key))

-- The call gives something up, and its key is stored without an allocation. So memory is never refused to it.
pub record GivesUp (key : List ℕ) (call : Call) (h : OneTableState) : Type 0 where
  pub short_key : length key ≤ 22
  pub begins_nothing : Begins (record_at h.records key) call → ⊥
