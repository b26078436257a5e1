-- What the program answers to a text of histories.
use Rattle.std.specs.Prelude.{ℕ, ◌≡◌, ◌⊎◌, ◌<◌, ◌^◌, List, [], ◌∷◌, ◌++◌, length, Option, IfErr, IfSome, Result, Ok, Err, decimal, codes}
use Rattle.std.specs.Io.KnownBytes.{Appends}
use Rattle.lt_text.specs.Compose.{spaced}
use Rattle.lt_checker.specs.declared.checker.Report.{Report}
use Rattle.lt_checker.specs.declared.checker.CheckError.TheVariants as faults
use Rattle.lt_checker.specs.declared.error.Fault.{Fault}
use Rattle.lt_writer.specs.Puts.{AppendsPrefix}
use Rattle.lt_checker.specs.Text.{Fails}
use Rattle.lt_checker.specs.Verdict.{IsLegalText, upgraded, of_latest}
use Rattle.lt_tool.specs.declared.check.CheckTextError.{CheckTextError}
use Rattle.lt_tool.specs.declared.check.CheckTextError.TheVariants as errors
use Rattle.lt_tool.specs.declared.input.Unread.{Unread}
use Rattle.lt_tool.specs.declared.input.Unread.TheVariants as inputs
use Rattle.lt_tool.specs.Output.{IsShort}

-- The line that answers a legal text, with its line end.
abbrev pub report_line : Report → List ℕ
report_line r = codes "ok" ++ spaced (decimal r.keys ∷ codes "keys" ∷ decimal r.steps ∷ codes "steps" ∷ []) ++ 10 ∷ []

-- This text was read to its end, and it is the text of legal histories, of this version and with these numbers of
-- keys and steps. If the bytes of the reader are known, the text is those bytes.
pub record IsLegalReport (source : Option (List ℕ)) (text : List ℕ) (report : Report) : Type 0 where
  pub is_read : IfSome source (λ all. text ≡ all)
  pub short : IsShort text
  pub legal : IsLegalText text report

-- Some text was read that is legal in this way.
pub record IsChecked (source : Option (List ℕ)) (report : Report) : Type 0 where
  pub text : List ℕ
  pub is_legal : IsLegalReport source text report

-- A text was read to its end, and this is its first faulty line and the first fault in it.
pub record IsFaulty (source : Option (List ℕ)) (line : ℕ) (fault : Fault) : Type 0 where
  pub text : List ℕ
  pub is_read : IfSome source (λ all. text ≡ all)
  pub short : IsShort text
  pub fails : Fails text line fault

-- Why a text was not answered with its numbers.
abbrev pub IsUnchecked : CheckTextError → Option (List ℕ) → Type 0
IsUnchecked errors.TooLong source = IfSome source (λ text. 2 ^ 24 < length text)
IsUnchecked (errors.Check (faults.Refused line fault)) source = IsFaulty source line fault
IsUnchecked _ source = Unit {0}

-- The text was legal, and the writer has received a prefix of its line.
pub record ToldInPart (source old new : Option (List ℕ)) : Type 0 where
  pub report : Report
  pub checked : IsChecked source report
  pub written : AppendsPrefix old new (report_line report)

-- A text of legal histories was read. The writer has received it with the first line of the latest version, and
-- nothing else. That text is legal, with the same numbers.
pub record IsUpgraded (source old new : Option (List ℕ)) (report : Report) : Type 0 where
  pub text : List ℕ
  pub is_legal : IsLegalReport source text report
  pub stays_legal : IsLegalText (upgraded text) (of_latest report)
  pub written : Appends old new (upgraded text)

-- The same, but the writer has received only a prefix of the upgraded text.
pub record UpgradedInPart (source old new : Option (List ℕ)) : Type 0 where
  pub text : List ℕ
  pub report : Report
  pub is_legal : IsLegalReport source text report
  pub stays_legal : IsLegalText (upgraded text) (of_latest report)
  pub written : AppendsPrefix old new (upgraded text)

-- The report on a text that was accepted, without the text.
abbrev pub reported : {X : Type 0} → Result (X × Report) CheckTextError → Result Report CheckTextError
reported (Ok taken) = Ok taken.1
reported (Err e) = Err e

-- A read failed, or memory ran out.
abbrev pub IsCheckStopped : Result Report CheckTextError → Type 0
IsCheckStopped (Err errors.Read) = Unit {0}
IsCheckStopped (Err (errors.Check faults.Memory)) = Unit {0}
IsCheckStopped _ = ⊥

abbrev pub IsCheckStoppedOr : Result Report CheckTextError → Result Report CheckTextError → Type 0
IsCheckStoppedOr result said = (result ≡ said) ⊎ IsCheckStopped result

-- The same, or a write failed.
abbrev pub IsUnwrittenOr : Result Report CheckTextError → Result Report CheckTextError → Type 0
IsUnwrittenOr result said = (result ≡ Err errors.Write) ⊎ IsCheckStoppedOr result said

-- A short text of legal histories is answered in this way with its numbers.
abbrev pub AnswersLegal : Option (List ℕ) → (Result Report CheckTextError → Type 0) → Type 0
AnswersLegal source is_answer = IfSome source (λ text. (report : Report) → IsShort text → IsLegalText text report → is_answer (Ok report))

-- A short text that has a faulty line is refused with the first such line and the first fault in it, unless a read
-- failed or memory ran out.
abbrev pub RefusesFaultyText : Option (List ℕ) → Result Report CheckTextError → Type 0
RefusesFaultyText source result =
    IfSome source (λ text. (line : ℕ) (fault : Fault) → IsShort text → Fails text line fault → IsCheckStoppedOr result (Err (errors.Check (faults.Refused line fault))))

-- A text of more than 2 ^ 24 bytes is refused as too long, unless a read failed or memory ran out.
abbrev pub RefusesLongText : Option (List ℕ) → Result Report CheckTextError → Type 0
RefusesLongText source result = IfSome source (λ text. 2 ^ 24 < length text → IsCheckStoppedOr result (Err errors.TooLong))

-- If a write failed, the text is legal and the writer has received a prefix of its line.
abbrev pub TellsPart : Result Report CheckTextError → Option (List ℕ) → Option (List ℕ) → Option (List ℕ) → Type 0
TellsPart result source old new = IfErr result (λ e. e ≡ errors.Write → ToldInPart source old new)

-- If a write failed, the text is legal and the writer has received a prefix of the upgraded text.
abbrev pub UpgradesPart : Result Report CheckTextError → Option (List ℕ) → Option (List ℕ) → Option (List ℕ) → Type 0
UpgradesPart result source old new = IfErr result (λ e. e ≡ errors.Write → UpgradedInPart source old new)

abbrev pub unread : Unread → CheckTextError
unread inputs.Read = errors.Read
unread inputs.TooLong = errors.TooLong
unread inputs.Memory = errors.Check faults.Memory
