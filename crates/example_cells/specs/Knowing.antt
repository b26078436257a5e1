-- What the cells beside a shard say of the shard's steps.
use Rattle.std.specs.Prelude.{ℕ, ◌≡◌, Bool, true, false, unwrap_or, MatchOption, if◌then◌else◌, Option, Some, None, IfSome, IsSome, List}
use Rattle.std.specs.Option.{option_map}
use Rattle.std.specs.Str.{bytes_eq}
use Rattle.std.specs.HashMap as hash
use Rattle.std.specs.HashMap.{HashMap}
use Rattle.lt_ids.specs.declared.timestamp.Timestamp.{Timestamp}
use Rattle.lt_rules.specs.declared.call.Call.{Call}
use Rattle.lt_rules.specs.declared.call.Call.TheVariants.{Visit, Acquire, Update, Finish, Leave, Look}
use Rattle.lt_rules.specs.declared.call.Reply.{Reply}
use Rattle.lt_rules.specs.Step.{is_taken, is_freed}
use Rattle.lt_entry.specs.declared.entry.Entry.{Entry}
use Rattle.lt_links.specs.declared.hashing.KeyHashing.{KeyHashing}
use Rattle.lt_tenure.specs.Tenure as tenure
use Rattle.lt_tenure.specs.Tenure.{owner_with, lock_owner, last_freed, Tenure, IsTenure}
use Rattle.example_cells.specs.declared.cell.Cell.{Cell}
use Rattle.example_cells.specs.declared.cell.Owner.{Owner}
use Rattle.example_cells.specs.declared.cell.PastTenure.{PastTenure}
use Rattle.example_cells.specs.declared.cell.CellReading.{CellReading}
use Rattle.std.specs.Prelude.{Vec}
use Rattle.std.specs.Global.{Global}

abbrev pub Value : Type 0
Value = Option (Vec ℕ Global)

-- what a transaction leaves at a key
abbrev pub Put : Type 0
Put = Option (Vec ℕ Global)

-- ---- a cell, step by step

abbrev pub owner_next : Option Owner → ℕ → Call → Reply → Option Owner
owner_next o at (Visit ticket txn ts access longest) reply = o
owner_next o at (Acquire txn ts) reply = if is_taken reply then Some (record { txn = txn; taken = at }) else o
owner_next o at (Update txn ts) reply = o
owner_next o at (Finish txn) reply = if is_freed reply then None else o
owner_next o at (Leave number) reply = o
owner_next o at (Look number) reply = o

-- the tenure that ends when this owner frees the lock by the step with this index
abbrev pub past_of : Option Owner → ℕ → Option PastTenure
past_of o at = option_map (λ x. record { txn = x.txn; taken = x.taken; freed = at }) o

abbrev pub past_next : Option PastTenure → Option Owner → ℕ → Call → Reply → Option PastTenure
past_next last o at (Visit ticket txn ts access longest) reply = last
past_next last o at (Acquire txn ts) reply = last
past_next last o at (Update txn ts) reply = last
past_next last o at (Finish txn) reply = if is_freed reply then past_of o at else last
past_next last o at (Leave number) reply = last
past_next last o at (Look number) reply = last

-- whether the log of values still has what the cell says, after a step of this call
abbrev pub left_next : Bool → Call → Reply → Bool
left_next left (Visit ticket txn ts access longest) reply = left
left_next left (Acquire txn ts) reply = left
left_next left (Update txn ts) reply = left
left_next left (Finish txn) reply = if is_freed reply then false else left
left_next left (Leave number) reply = left
left_next left (Look number) reply = left

-- The cell was told of this step of its key. Its value stays.
pub record ToldCell (old new : Cell) (call : Call) (reply : Reply) (at : ℕ) : Type 0 where
  pub value : new.value ≡ old.value
  pub left : new.left ≡ left_next old.left call reply
  pub owner : new.owner ≡ owner_next old.owner at call reply
  pub last : new.last ≡ past_next old.last old.owner at call reply

-- the cell, once what was put is its value
abbrev pub installed : Bool → Option Put → Cell → Cell
installed left put c = record c { value = unwrap_or put c.value; left = left }

-- ---- what a cell says

abbrev pub owner_named : Owner → tenure.Owner
owner_named o = owner_with o.txn o.taken

abbrev pub tenure_of : List ℕ → PastTenure → Tenure
tenure_of key t = record { key = key; taken = t.taken; freed = t.freed }

-- After these steps of the key's shard, this owner owns the lock, and this tenure of it ended last.
pub record Knows (key : List ℕ) (es : List Entry) (o : Option Owner) (t : Option PastTenure) : Type 0 where
  pub owner : option_map owner_named o ≡ lock_owner key es
  pub last : option_map (λ x. x.freed) t ≡ last_freed key es
  pub ended : IfSome t (λ x. IsTenure es x.txn (tenure_of key x))

abbrev pub CellKnows : List ℕ → List Entry → Option Cell → Type 0
CellKnows key es None = Knows key es None None
CellKnows key es (Some c) = Knows key es c.owner c.last

abbrev pub CellMap : Type 0
CellMap = HashMap (List ℕ) Cell KeyHashing

-- the cell of a key
abbrev pub cell_at : CellMap → List ℕ → Option Cell
cell_at cells key = hash.get bytes_eq cells key

-- Each key's cell says what these steps of the shard made of the key's lock. A key without a cell was never locked.
abbrev pub CellsKnow : List Entry → CellMap → Type 0
CellsKnow es cells = (key : List ℕ) → CellKnows key es (cell_at cells key)

-- The cell of this key, if it has one, was told of the step, and the cells of the other keys are as before.
pub record ToldEach (old new : CellMap) (key : List ℕ) (call : Call) (reply : Reply) (at : ℕ) : Type 0 where
  pub here : MatchOption (cell_at old key) (cell_at new key ≡ None) (λ c. (d : Cell) × (cell_at new key ≡ Some d) × ToldCell c d call reply at)
  pub others : (q : List ℕ) → bytes_eq key q ≡ false → cell_at new q ≡ cell_at old q

-- the bytes of a value
abbrev pub value_bytes : {A : Type 0} → Option (Vec ℕ A) → Option (List ℕ)
value_bytes v = option_map (λ x. x.items) v

-- the tenure that ended last
abbrev pub last_of : Option Cell → Option PastTenure
last_of None = None
last_of (Some c) = c.last

-- What is read of a key with this cell.
abbrev pub ReadsCell : Option Cell → CellReading → Type 0
ReadsCell None r = (r.value ≡ None) × (r.last ≡ None) × (r.owner ≡ None) × (r.left ≡ false)
ReadsCell (Some c) r = (value_bytes r.value ≡ value_bytes c.value) × (r.last ≡ c.last) × (r.owner ≡ c.owner) × (r.left ≡ c.left)

-- The key's cell, if it has one, has what was put, and says so much of the log of values. All else is as before.
pub record InstallsWith (left : Bool) (old new : CellMap) (key : List ℕ) (put : Option Put) : Type 0 where
  pub here : MatchOption (cell_at old key) (cell_at new key ≡ None) (λ c. cell_at new key ≡ Some (installed left put c))
  pub others : (q : List ℕ) → bytes_eq key q ≡ false → cell_at new q ≡ cell_at old q

-- A key that a call may lock has a cell.
abbrev pub HasCellFor : CellMap → List ℕ → Call → Type 0
HasCellFor cells key call = (txn : ℕ) (ts : Timestamp) → call ≡ Acquire txn ts → IsSome (cell_at cells key)
