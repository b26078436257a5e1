-- The verdict of a check on a text.
use Rattle.std.specs.Prelude.{ℕ, ◌≡◌, ◌≢◌, ◌⊎◌, List, [], ◌++◌, length, drop, Result, Ok, Err}
use Rattle.std.specs.List.{AllByRecursion}
use Rattle.lt_checker.specs.declared.checker.Report.{Report}
use Rattle.lt_checker.specs.declared.checker.CheckError.{CheckError}
use Rattle.lt_checker.specs.declared.checker.CheckError.TheVariants as errors
use Rattle.lt_entry.specs.declared.entry.Entry.{Entry}
use Rattle.lt_checker.specs.declared.error.Fault.{Fault}
use Rattle.lt_checker.specs.declared.error.HistoryLineError.{HistoryLineError}
use Rattle.lt_checker.specs.declared.error.HistoryLineError.TheVariants as refusals
use Rattle.lt_checker.specs.Lines.{Parts}
use Rattle.lt_checker.specs.Text.{AreLegal, IsOf, text_by, key_count, Fails}
use Rattle.lt_checker.specs.Version.{IsVersion, header_of}
use Rattle.lt_checker.specs.Histories.{IsEntryOf, AreLegalKeysBy, IsTextBy}
use Rattle.lt_entry.specs.Ranges.{IsInRange}

-- ---- the verdict, and when it is right

-- The text is the text of legal histories, of this version and with these numbers of keys and steps.
pub record IsLegalText (text : List ℕ) (report : Report) : Type 0 where
  pub is_version : IsVersion report.version
  pub entries : List Entry
  pub in_range : AllByRecursion IsInRange entries
  pub of_version : AllByRecursion (IsEntryOf report.version) entries
  pub legal : AreLegalKeysBy report.version entries
  pub is_text : IsTextBy report.version text entries
  pub keys : report.keys ≡ length is_text.keys
  pub steps : report.steps ≡ length entries

-- The first line is right, and the text has more after it.
pub record GoesOn (text : List ℕ) : Type 0 where
  pub version : ℕ
  pub is_version : IsVersion version
  pub rest : List ℕ
  pub joined : text ≡ header_of version ++ rest
  pub more : rest ≢ []

-- The verdict is right. Out of memory is reported only if the first line is right and is not the only one.
abbrev pub Says : List ℕ → Result Report CheckError → Type 0
Says text (Ok report) = IsLegalText text report
Says text (Err (errors.Refused line fault)) = Fails text line fault
Says text (Err errors.Memory) = GoesOn text

-- The result is this one, unless memory ran out.
abbrev pub IsOrMemory : Result Report CheckError → Result Report CheckError → Type 0
IsOrMemory result said = (result ≡ said) ⊎ (result ≡ Err errors.Memory)

-- A text that has a faulty line is refused with the first such line and the first fault in it, unless memory ran out.
abbrev pub RefusesFaulty : List ℕ → Result Report CheckError → Type 0
RefusesFaulty text result = (line : ℕ) (fault : Fault) → Fails text line fault → IsOrMemory result (Err (errors.Refused line fault))

-- The text with the first line of the latest version, and otherwise unchanged.
abbrev pub upgraded : List ℕ → List ℕ
upgraded text = header_of 2 ++ drop 8 text

-- The report of the upgraded text.
abbrev pub of_latest : Report → Report
of_latest report = record report { version = 2 }

-- ---- the same by lines, as the checker proceeds

abbrev pub located : HistoryLineError → ℕ → CheckError
located refusals.Memory line = errors.Memory
located (refusals.Fault fault) line = errors.Refused line fault

-- The text consists of legal lines of the version, and the report counts them and their keys.
pub record IsReported (text : List ℕ) (report : Report) : Type 0 where
  pub is_version : IsVersion report.version
  pub lines : List Parts
  pub legal : AreLegal lines
  pub of_version : AllByRecursion (IsOf report.version) lines
  pub joined : text ≡ text_by report.version lines
  pub steps : report.steps ≡ length lines
  pub keys : report.keys ≡ key_count lines

abbrev pub FailsOr : List ℕ → CheckError → Type 0
FailsOr text (errors.Refused line fault) = Fails text line fault
FailsOr text errors.Memory = GoesOn text

abbrev pub Judges : List ℕ → Result Report CheckError → Type 0
Judges text (Ok report) = IsReported text report
Judges text (Err e) = FailsOr text e
