-- What a cursor of the check stands for, and how its moves change it.
use Rattle.std.specs.Prelude.{ℕ, ◌≡◌, ◌⊎◌, Bool, List, [], map, Option, Some, None, IfSome}
use Rattle.std.specs.Str.{bytes_eq}
use Rattle.std.specs.Ordering.{nat_cmp, is_lt}
use Rattle.std.specs.Cmp.Lexicographic.{slice_cmp}
use Rattle.std.specs.Prelude.{false}
use Rattle.lt_ids.specs.Key.{IsKey}
use Rattle.lt_ids.specs.Ids.{Wait}
use Rattle.lt_rules.specs.Rules.{Record, empty}
use Rattle.lt_rules.specs.Step.{step}
use Rattle.lt_checker.specs.declared.error.Fault.TheVariants.{KeyOrder, Index, WrongReply, WrongLets}
use Rattle.lt_checker.specs.declared.error.HistoryLineError.{HistoryLineError}
use Rattle.lt_checker.specs.declared.error.HistoryLineError.TheVariants as refusals
use Rattle.lt_checker.specs.declared.line.LineStep.{LineStep}
use Rattle.lt_checker.specs.declared.cursor.Cursor.{Cursor}
use Rattle.lt_checker.specs.declared.cursor.Expected.{Expected}
use Rattle.lt_checker.specs.Lines.{Parts, IsNoKey}
use Rattle.lt_checker.specs.Text.{Spot, index_after, record_before, outcome, IsOrdered, HasItsIndex, IsWrongOr}

-- The key of the latest line; before the first line, the empty key.
abbrev pub latest_key : Option (List ℕ) → List ℕ
latest_key None = []
latest_key (Some key) = key

-- the record of a key, which may be missing if it is empty
abbrev pub record_in : Option Record → Record
record_in None = empty
record_in (Some r) = r

abbrev pub spot : Cursor → Spot
spot p = record { key = latest_key p.key; index = p.index; state = record_in p.linked }

abbrev pub IsInOrder : Spot → List ℕ → Type 0
IsInOrder s key = is_lt (slice_cmp nat_cmp key s.key) ≡ false

-- The cursor is at the first line of this key, before its call.
pub record IsAtNewKey (key : List ℕ) (index : ℕ) (next : Cursor) : Type 0 where
  pub counted : index ≡ 1
  pub key_is : next.key ≡ Some key
  pub index_is : next.index ≡ index
  pub state_is : record_in next.linked ≡ empty

abbrev pub IsNoFirst : ℕ → HistoryLineError → Type 0
IsNoFirst index refusals.Memory = Unit {0}
IsNoFirst index (refusals.Fault Index) = index ≡ 1 → ⊥
IsNoFirst index (refusals.Fault _) = ⊥

-- A line of this key and index may come next, and this is the cursor before its call.
pub record IsNext (s : Spot) (key : List ℕ) (index : ℕ) (next : Cursor) : Type 0 where
  pub ordered : IsInOrder s key
  pub counted : index ≡ index_after s key
  pub key_is : next.key ≡ Some key
  pub index_is : next.index ≡ index
  pub state_is : record_in next.linked ≡ record_before s key

abbrev pub IsNoNext : Spot → List ℕ → ℕ → HistoryLineError → Type 0
IsNoNext s key index refusals.Memory = Unit {0}
IsNoNext s key index (refusals.Fault KeyOrder) = IsInOrder s key → ⊥
IsNoNext s key index (refusals.Fault Index) = IsInOrder s key × (index ≡ index_after s key → ⊥)
IsNoNext s key index (refusals.Fault _) = ⊥

-- The word is the key of the latest line.
abbrev pub is_latest : Option (List ℕ) → List ℕ → Bool
is_latest None word = false
is_latest (Some key) word = bytes_eq word key

-- The line of the latest key with this index may come next, and this is the cursor before its call.
abbrev pub GoesOnAtKey : Cursor → ℕ → Cursor → Type 0
GoesOnAtKey old index next = IfSome old.key (λ key. IsNext (spot old) key index next)

-- The line of the latest key with this index may not come next.
abbrev pub DoesNotGoOnAtKey : Cursor → ℕ → HistoryLineError → Type 0
DoesNotGoOnAtKey old index e = IfSome old.key (λ key. IsNoNext (spot old) key index e)

-- The word is no key, or the line of this key and index may not come next.
abbrev pub IsNoNextWord : Spot → List ℕ → ℕ → HistoryLineError → Type 0
IsNoNextWord s word index e = IsNoKey word e ⊎ (IsKey word × IsNoNext s word index e)

-- The first word is no key, or the line with these parts has this fault here.
abbrev pub IsNoKeyOrWrong : Spot → Parts → HistoryLineError → Type 0
IsNoKeyOrWrong s p e = IsNoKey p.key e ⊎ (IsKey p.key × IsWrongOr s p e)

-- The rules give the line's reply and its tickets, and leave this record.
pub record FollowsRules (r : Record) (s : LineStep) (tickets : List Wait) (after : Record) : Type 0 where
  pub replied : s.reply ≡ (step r s.pass s.call).reply
  pub let_through : tickets ≡ map (λ t. t.ticket) (step r s.pass s.call).lets
  pub left : after ≡ (step r s.pass s.call).after

abbrev pub IsNotMade : Record → LineStep → List Wait → HistoryLineError → Type 0
IsNotMade r s tickets refusals.Memory = Unit {0}
IsNotMade r s tickets (refusals.Fault WrongReply) = s.reply ≡ (step r s.pass s.call).reply → ⊥
IsNotMade r s tickets (refusals.Fault WrongLets) = (s.reply ≡ (step r s.pass s.call).reply) × (tickets ≡ map (λ t. t.ticket) (step r s.pass s.call).lets → ⊥)
IsNotMade r s tickets (refusals.Fault _) = ⊥

-- The line has its key in order and the right index, and this is what the rules give for its call.
pub record IsGiven (s : Spot) (p : Parts) (x : Expected) : Type 0 where
  pub ordered : IsOrdered s p
  pub counted : HasItsIndex s p
  pub reply_is : x.reply ≡ (outcome s p).reply
  pub tickets_are : x.tickets.items ≡ map (λ t. t.ticket) (outcome s p).lets
