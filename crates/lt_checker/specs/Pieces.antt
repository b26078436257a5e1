-- A check of a text that comes in pieces: what a checker has taken, and what it says of every text that goes on.
use Rattle.std.specs.Prelude.{ℕ, ◌≡◌, ◌⊎◌, ◌+◌, ◌<◌, ◌≤◌, ◌^◌, ◌==◌, true, if◌then◌else◌, List, [], ◌∷◌, ◌++◌, length, Option, Some, None, Result, Ok}
use Rattle.std.specs.List.{AllByRecursion}
use Rattle.lt_ids.specs.Key.{IsKey}
use Rattle.lt_text.specs.Words.{cut_of}
use Rattle.lt_checker.specs.declared.checker.Report.{Report}
use Rattle.lt_checker.specs.declared.checker.CheckError.{CheckError}
use Rattle.lt_checker.specs.declared.cursor.Expected.{Expected}
use Rattle.lt_checker.specs.declared.error.Fault.TheVariants.{Header, Shape}
use Rattle.lt_checker.specs.declared.error.HistoryLineError.{HistoryLineError}
use Rattle.lt_checker.specs.declared.error.HistoryLineError.TheVariants as refusals
use Rattle.lt_checker.specs.declared.line.Line.{Line}
use Rattle.lt_checker.specs.declared.pieces.Checker.{Checker}
use Rattle.lt_checker.specs.Cursor.{spot, IsGiven}
use Rattle.lt_checker.specs.Histories.{precedes}
use Rattle.lt_checker.specs.Lines.{Parts, IsLine, IsNoKey, line_text, parts_of}
use Rattle.lt_checker.specs.Text.{Spot, start, spot_after, spot_from, IsOf, IsOrdered, HasItsIndex, IsShapelessIn, IsWrongOr, Follows, AreLegal, text_by, key_count, Fails}
use Rattle.lt_checker.specs.Verdict.{IsLegalText, Says, Judges, IsOrMemory, RefusesFaulty, FailsOr}
use Rattle.lt_checker.specs.Version.{IsVersion, header_of}

-- ---- what a checker has taken

-- The text is shorter than 2 ^ 64 bytes, so that its keys and steps can be counted.
abbrev pub IsCountable : List ℕ → Type 0
IsCountable text = length text + 8 < 2 ^ 64

-- The key of the first of these lines.
abbrev pub first_key : List Parts → Option (List ℕ)
first_key [] = None
first_key (p ∷ ps) = Some p.key

-- The text is a first line and then legal lines of its version. The checker has taken them all, counted them and their
-- keys, and stands after the last one.
pub record HasTaken (c : Checker) (text : List ℕ) : Type 0 where
  pub is_version : IsVersion c.report.version
  pub lines : List Parts
  pub legal : AreLegal lines
  pub of_version : AllByRecursion (IsOf c.report.version) lines
  pub joined : text ≡ text_by c.report.version lines
  pub steps : c.report.steps ≡ length lines
  pub keys : c.report.keys ≡ key_count lines
  pub stands : spot c.cursor ≡ spot_from start lines
  pub first : c.first ≡ first_key lines

-- What the checker has taken is the text of legal histories, with this report.
abbrev pub ReportsLegal : Checker → Report → Type 0
ReportsLegal c report = (text : List ℕ) → HasTaken c text → IsCountable text → IsLegalText text report

-- The text begins with the first line of a version, which the checker has taken, and goes on with these lines.
pub record HasBegun (text : List ℕ) (c : Checker) (lines : List ℕ) : Type 0 where
  pub joined : text ≡ header_of c.report.version ++ lines
  pub has_taken : HasTaken c (header_of c.report.version)

-- The text begins with the first line of no version, whatever comes after it. If it is not the whole text, it must be as
-- long as a first line.
abbrev pub LacksHeader : List ℕ → Type 0
LacksHeader text = (after : List ℕ) → (8 ≤ length text) ⊎ (after ≡ []) → Fails (text ++ after) 1 Header

-- ---- one line

-- The line, given without its line end, comes next at this spot and leads to the other one.
pub record IsNextLine (version : ℕ) (s : Spot) (bytes : List ℕ) (next : Spot) : Type 0 where
  pub parts : Parts
  pub line : IsLine parts
  pub of_version : IsOf version parts
  pub is_text : line_text parts ≡ bytes ++ 10 ∷ []
  pub follows : Follows s parts
  pub leads : next ≡ spot_after s parts

-- The line, given without its line end, has this fault here. Out of memory says nothing about it.
abbrev pub IsFaultyLine : ℕ → Spot → List ℕ → HistoryLineError → Type 0
IsFaultyLine version s bytes e = IsShapelessIn version e bytes ⊎ (p : Parts) × IsLine p × IsOf version p × (line_text p ≡ bytes ++ 10 ∷ []) × IsWrongOr s p e

-- No line that may come next here has this text, given without its line end.
abbrev pub NoLineComesNext : ℕ → Spot → List ℕ → Type 0
NoLineComesNext version s bytes = (p : Parts) → IsLine p → IsOf version p → line_text p ≡ bytes ++ 10 ∷ [] → IsOrdered s p → HasItsIndex s p → ⊥

-- The same of a line that was refused. Out of memory says nothing about it.
abbrev pub IsNoNextLine : ℕ → Spot → List ℕ → HistoryLineError → Type 0
IsNoNextLine version s bytes refusals.Memory = Unit {0}
IsNoNextLine version s bytes (refusals.Fault fault) = NoLineComesNext version s bytes

-- This key, or the other one if there is none.
abbrev pub key_or : Option (List ℕ) → List ℕ → Option (List ℕ)
key_or None key = Some key
key_or (Some first) key = Some first

-- The checker has taken this line and counted it.
pub record TakesOneLine (old : Checker) (bytes : List ℕ) (new : Checker) : Type 0 where
  pub next : IsNextLine old.report.version (spot old.cursor) bytes (spot new.cursor)
  pub version : new.report.version ≡ old.report.version
  pub steps : old.report.steps + 1 < 2 ^ 64 → new.report.steps ≡ old.report.steps + 1
  pub keys : old.report.keys + 1 < 2 ^ 64 → new.report.keys ≡ (if next.parts.step.index == 1 then old.report.keys + 1 else old.report.keys)
  pub first : new.first ≡ key_or old.first next.parts.key

-- The checker has taken and counted a line with these parts.
pub record TakesParts (old : Checker) (p : Parts) (new : Checker) : Type 0 where
  pub key : IsKey p.key
  pub of_version : IsOf old.report.version p
  pub follows : Follows (spot old.cursor) p
  pub leads : spot new.cursor ≡ spot_after (spot old.cursor) p
  pub version : new.report.version ≡ old.report.version
  pub steps : old.report.steps + 1 < 2 ^ 64 → new.report.steps ≡ old.report.steps + 1
  pub keys : old.report.keys + 1 < 2 ^ 64 → new.report.keys ≡ (if p.step.index == 1 then old.report.keys + 1 else old.report.keys)
  pub first : new.first ≡ key_or old.first p.key

-- The parts are no line of the version.
abbrev pub IsNoLineOf : ℕ → Parts → HistoryLineError → Type 0
IsNoLineOf version p e = IsNoKey p.key e ⊎ ((e ≡ refusals.Fault Shape) × (IsOf version p → ⊥))

-- A line with these parts has this fault here. Out of memory says nothing about it.
abbrev pub IsFaultyParts : ℕ → Spot → Parts → HistoryLineError → Type 0
IsFaultyParts version s p e = IsNoLineOf version p e ⊎ (IsKey p.key × IsOf version p × IsWrongOr s p e)

-- The line with these bytes, given without its line end, says this.
pub record IsTextOfLine (bytes : List ℕ) (l : Line) : Type 0 where
  pub line : IsLine (parts_of l)
  pub is_text : line_text (parts_of l) ≡ bytes ++ 10 ∷ []

-- The rules give this for the line, and the line comes next. The line's own reply and tickets are not looked at.
pub record GivesByRules (c : Checker) (bytes : List ℕ) (x : Expected) : Type 0 where
  pub parts : Parts
  pub line : IsLine parts
  pub of_version : IsOf c.report.version parts
  pub is_text : line_text parts ≡ bytes ++ 10 ∷ []
  pub given : IsGiven (spot c.cursor) parts x

-- ---- a piece

-- The checker has taken lines of the piece and left the rest.
pub record MovesOver (old : Checker) (piece : List ℕ) (new : Checker) (rest : List ℕ) : Type 0 where
  pub taken : List ℕ
  pub joined : piece ≡ taken ++ rest
  pub has_taken : (before : List ℕ) → HasTaken old before → IsCountable (before ++ taken) → HasTaken new (before ++ taken)

-- The checker has taken all whole lines of the piece. The rest has no line end.
abbrev pub TakesLines : Checker → List ℕ → Checker → List ℕ → Type 0
TakesLines old piece new rest = MovesOver old piece new rest × (cut_of 10 rest ≡ None)

-- The checker has taken the first line of the piece, which says this, and left the rest.
pub record TakesFirstLine (old : Checker) (piece : List ℕ) (new : Checker) (line : Line) (rest : List ℕ) : Type 0 where
  pub moves : MovesOver old piece new rest
  pub bytes : List ℕ
  pub is_first : cut_of 10 piece ≡ Some (bytes, rest)
  pub says : IsTextOfLine bytes line

-- The piece has no line end, and the checker has taken nothing.
abbrev pub TakesNone : Checker → List ℕ → Checker → Type 0
TakesNone old piece new = (new ≡ old) × (cut_of 10 piece ≡ None)

-- A text that goes on with this piece is refused in this way, whatever comes after the piece.
abbrev pub RefusesFrom : Checker → List ℕ → CheckError → Type 0
RefusesFrom c piece e = (before after : List ℕ) → HasTaken c before → IsCountable (before ++ piece) → FailsOr (before ++ (piece ++ after)) e

-- ---- the end of the text

-- The verdict is right for the text that ends with this rest.
abbrev pub SaysAtEnd : Checker → List ℕ → Result Report CheckError → Type 0
SaysAtEnd c rest result = (before : List ℕ) → HasTaken c before → IsCountable (before ++ rest) → Says (before ++ rest) result

-- If that text is legal, it is accepted with its numbers, unless memory ran out.
abbrev pub AcceptsAtEnd : Checker → List ℕ → Result Report CheckError → Type 0
AcceptsAtEnd c rest result =
    (before : List ℕ) → HasTaken c before → IsCountable (before ++ rest) → (report : Report) → IsLegalText (before ++ rest) report → IsOrMemory result (Ok report)

-- If that text has a faulty line, it is refused with the first one and the first fault in it, unless memory ran out.
abbrev pub RefusesAtEnd : Checker → List ℕ → Result Report CheckError → Type 0
RefusesAtEnd c rest result = (before : List ℕ) → HasTaken c before → IsCountable (before ++ rest) → RefusesFaulty (before ++ rest) result

-- The same by lines, as the checker proceeds.
abbrev pub JudgesAtEnd : Checker → List ℕ → Result Report CheckError → Type 0
JudgesAtEnd c rest result = (before : List ℕ) → HasTaken c before → IsCountable (before ++ rest) → Judges (before ++ rest) result

-- ---- two parts of a text

-- The first key of the second part follows the latest key of the first part, if both have lines.
abbrev pub RisesTo : Option (List ℕ) → Option (List ℕ) → Type 0
RisesTo (Some latest) (Some first) = precedes latest first ≡ true
RisesTo (Some latest) None = Unit {0}
RisesTo None first = Unit {0}

-- The lines that the second checker has taken may follow those of the first one.
abbrev pub MayJoin : Checker → Checker → Type 0
MayJoin c next = (c.report.version ≡ next.report.version) × RisesTo c.cursor.key next.first

-- The joined checker has taken what the first one has taken, and then the lines of the second one.
abbrev pub TakesBoth : Checker → Checker → Checker → Type 0
TakesBoth c next both =
    (before lines : List ℕ) → HasTaken c before → HasTaken next (header_of next.report.version ++ lines) → IsCountable (before ++ lines) → HasTaken both (before ++ lines)

-- The first of these keys that there is.
abbrev pub first_of_both : Option (List ℕ) → Option (List ℕ) → Option (List ℕ)
first_of_both (Some key) next = Some key
first_of_both None next = next

-- The joined checker stands where the second one stands and has the counts of both.
pub record IsJoined (c next both : Checker) : Type 0 where
  pub cursor : both.cursor ≡ next.cursor
  pub version : both.report.version ≡ c.report.version
  pub steps : c.report.steps + next.report.steps < 2 ^ 64 → both.report.steps ≡ c.report.steps + next.report.steps
  pub keys : c.report.keys + next.report.keys < 2 ^ 64 → both.report.keys ≡ c.report.keys + next.report.keys
  pub first : both.first ≡ first_of_both c.first next.first
