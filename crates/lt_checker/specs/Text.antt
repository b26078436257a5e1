-- The text of key histories by lines, and the faults of any other text.
--
-- A legal text is the first line and then lines each of which follows the lines before it. Any other text has a
-- first line that does not follow, and that line has a first fault, in the order Header, Shape, KeyOrder, Index,
-- WrongReply, WrongLets.
use Rattle.std.specs.Prelude.{ℕ, ◌≡◌, ◌≢◌, ◌+◌, ◌==◌, false, true, if◌then◌else◌, List, [], ◌∷◌, ◌++◌, length, map, count_by}
use Rattle.std.specs.List.{flat_map, AllByRecursion}
use Rattle.std.specs.Str.{bytes_eq}
use Rattle.std.specs.Ordering.{nat_cmp, is_lt}
use Rattle.std.specs.Cmp.Lexicographic.{slice_cmp}
use Rattle.lt_rules.specs.Rules.{Record, empty, Outcome}
use Rattle.lt_rules.specs.Step.{step}
use Rattle.lt_checker.specs.declared.error.Fault.{Fault}
use Rattle.lt_checker.specs.declared.error.Fault.TheVariants.{Header, Shape, KeyOrder, Index, WrongReply, WrongLets}
use Rattle.lt_checker.specs.declared.error.HistoryLineError.{HistoryLineError}
use Rattle.lt_checker.specs.declared.error.HistoryLineError.TheVariants as refusals
use Rattle.lt_checker.specs.Lines.{Parts, IsLine, line_text}
use Rattle.lt_checker.specs.Version.{IsVersion, header_of, is_of_version}

-- The first line of the version, and then these lines.
abbrev pub text_by : ℕ → List Parts → List ℕ
text_by version ps = header_of version ++ flat_map line_text ps

-- The first line of the latest version.
abbrev pub header : List ℕ
header = header_of 2

-- The text of these lines in the latest version.
abbrev pub text_of : List Parts → List ℕ
text_of ps = text_by 2 ps

-- The call and the reply of the line can occur in a text of the version.
abbrev pub IsOf : ℕ → Parts → Type 0
IsOf version p = is_of_version version p.step.call p.step.reply ≡ true

-- ---- between two lines

-- What the check knows between two lines: the key of the previous line, its index, and the key's record after it.
pub record Spot : Type 0 where
  pub key : List ℕ
  pub index : ℕ
  pub state : Record

-- The spot before the first line.
abbrev pub start : Spot
start = record { key = []; index = 0; state = empty }

-- The index that a line of this key must have here: one more than the previous line's, or 1 if the key is a new
-- one.
abbrev pub index_after : Spot → List ℕ → ℕ
index_after s key = if bytes_eq key s.key then s.index + 1 else 1

-- The record of the key here: that of the previous line if the key is the same, and else the empty record.
abbrev pub record_before : Spot → List ℕ → Record
record_before s key = if bytes_eq key s.key then s.state else empty

-- The outcome that the rules give for the line's call.
abbrev pub outcome : Spot → Parts → Outcome
outcome s p = step (record_before s p.key) p.step.pass p.step.call

-- The spot after the line.
abbrev pub spot_after : Spot → Parts → Spot
spot_after s p = record { key = p.key; index = p.step.index; state = (outcome s p).after }

-- ---- a line that follows, and the faults of a line that does not, in their order

-- The line's key does not precede the key of the previous line.
abbrev pub IsOrdered : Spot → Parts → Type 0
IsOrdered s p = is_lt (slice_cmp nat_cmp p.key s.key) ≡ false

-- The line has the index that a line must have here.
abbrev pub HasItsIndex : Spot → Parts → Type 0
HasItsIndex s p = p.step.index ≡ index_after s p.key

-- The line has the reply that the rules give.
abbrev pub HasItsReply : Spot → Parts → Type 0
HasItsReply s p = p.step.reply ≡ (outcome s p).reply

-- The line has the tickets that the rules let through, in their order.
abbrev pub IsLetThrough : Spot → Parts → Type 0
IsLetThrough s p = p.tickets ≡ map (λ t. t.ticket) (outcome s p).lets

-- The line follows: all four conditions hold.
pub record Follows (s : Spot) (p : Parts) : Type 0 where
  pub ordered : IsOrdered s p
  pub counted : HasItsIndex s p
  pub replied : HasItsReply s p
  pub let_through : IsLetThrough s p

-- This is the first fault of a line that has the right shape.
abbrev pub IsWrong : Spot → Parts → Fault → Type 0
IsWrong s p KeyOrder = IsOrdered s p → ⊥
IsWrong s p Index = IsOrdered s p × (HasItsIndex s p → ⊥)
IsWrong s p WrongReply = IsOrdered s p × HasItsIndex s p × (HasItsReply s p → ⊥)
IsWrong s p WrongLets = IsOrdered s p × HasItsIndex s p × HasItsReply s p × (IsLetThrough s p → ⊥)
IsWrong s p _ = ⊥

-- This is the first fault in the line that comes next in the rest of a text of the version.
abbrev pub HasFault : ℕ → Spot → List ℕ → Fault → Type 0
HasFault version s rest Header = ⊥
HasFault version s rest Shape = (rest ≢ []) × ((p : Parts) (more : List ℕ) → IsLine p → IsOf version p → rest ≡ line_text p ++ more → ⊥)
HasFault version s rest fault = (p : Parts) × (more : List ℕ) × IsLine p × IsOf version p × (rest ≡ line_text p ++ more) × IsWrong s p fault

-- ---- whole texts

-- Each of these is a line and follows the lines before it.
abbrev pub AreLegalFrom : Spot → List Parts → Type 0
AreLegalFrom s [] = Unit {0}
AreLegalFrom s (p ∷ ps) = IsLine p × Follows s p × AreLegalFrom (spot_after s p) ps

abbrev pub AreLegal : List Parts → Type 0
AreLegal ps = AreLegalFrom start ps

-- The spot after these lines.
abbrev pub spot_from : Spot → List Parts → Spot
spot_from s [] = s
spot_from s (p ∷ ps) = spot_from (spot_after s p) ps

-- The number of keys: each key has exactly one line of index 1.
abbrev pub key_count : List Parts → ℕ
key_count ps = count_by (λ p. p.step.index == 1) ps

-- The lines before this one are legal, and this one has the fault.
pub record FailsAt (text : List ℕ) (line : ℕ) (fault : Fault) : Type 0 where
  pub version : ℕ
  pub is_version : IsVersion version
  pub before : List Parts
  pub rest : List ℕ
  pub legal : AreLegal before
  pub of_version : AllByRecursion (IsOf version) before
  pub joined : text ≡ text_by version before ++ rest
  pub number : line ≡ length before + 2
  pub faulty : HasFault version (spot_from start before) rest fault

-- This is the first faulty line, counted from 1, and the first fault in it.
abbrev pub Fails : List ℕ → ℕ → Fault → Type 0
Fails text line Header = (line ≡ 1) × ((version : ℕ) (more : List ℕ) → IsVersion version → text ≡ header_of version ++ more → ⊥)
Fails text line fault = FailsAt text line fault

-- ---- the errors of the code

-- No line of the version has this text. Out of memory says nothing about it.
abbrev pub IsShapelessIn : ℕ → HistoryLineError → List ℕ → Type 0
IsShapelessIn version refusals.Memory bytes = Unit {0}
IsShapelessIn version (refusals.Fault Shape) bytes = (p : Parts) → IsLine p → IsOf version p → line_text p ≡ bytes ++ 10 ∷ [] → ⊥
IsShapelessIn version (refusals.Fault _) bytes = ⊥

abbrev pub IsWrongOr : Spot → Parts → HistoryLineError → Type 0
IsWrongOr s p refusals.Memory = Unit {0}
IsWrongOr s p (refusals.Fault fault) = IsWrong s p fault

-- The line may not come next: its key is out of order, or it does not have the index that a line must have here. Out of
-- memory says nothing about it.
abbrev pub MayNotComeNext : Spot → Parts → HistoryLineError → Type 0
MayNotComeNext s p refusals.Memory = Unit {0}
MayNotComeNext s p (refusals.Fault fault) = IsOrdered s p → HasItsIndex s p → ⊥

-- The rest of the text has this fault. If memory ran out, the rest is not empty.
abbrev pub HasFaultOr : ℕ → Spot → List ℕ → HistoryLineError → Type 0
HasFaultOr version s rest refusals.Memory = rest ≢ []
HasFaultOr version s rest (refusals.Fault fault) = HasFault version s rest fault
