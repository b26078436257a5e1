-- What the check of a text in pieces has heard, and what C is told of the text.
use Rattle.std.specs.Prelude.{ℕ, ◌≡◌, List, ◌++◌, Option, Some, None, Result, Ok, Err}
use Rattle.lt_checker.specs.declared.checker.Report.{Report}
use Rattle.lt_checker.specs.declared.checker.CheckError.{CheckError}
use Rattle.lt_checker.specs.declared.checker.CheckError.TheVariants as errors
use Rattle.lt_checker.specs.Pieces.{HasTaken, IsCountable}
use Rattle.lt_checker.specs.Text.{Fails}
use Rattle.lt_checker.specs.Verdict.{IsLegalText, IsOrMemory, RefusesFaulty}
use Rattle.lt_handles.specs.declared.held_check.TextCheck.{TextCheck}
use Rattle.lt_handles.specs.declared.held_check.TextCheck.TheVariants.{Beginning, Lines, Over}
use Rattle.lt_handles.specs.declared.held_check.HeldCheck.{HeldCheck}
use Rattle.lt_handles.specs.declared.shapes.LtReport.{LtReport}
use Rattle.lt_handles.specs.Checks.{Tells}
use Rattle.lt_handles.specs.Codes.{fault_code}

-- A text that goes on in any way is refused so. Out of memory says nothing about it.
abbrev pub IsRefusedSo : CheckError → List ℕ → Type 0
IsRefusedSo (errors.Refused line fault) text = (after : List ℕ) → Fails (text ++ after) line fault
IsRefusedSo errors.Memory text = Unit {0}

-- The checker has taken the first part of the text, and the rest is pending.
pub record IsTakenUpTo (pending text : List ℕ) (taken_by : List ℕ → Type 0) : Type 0 where
  pub before : List ℕ
  pub has_taken : taken_by before
  pub joined : text ≡ before ++ pending

-- The check with these pending bytes has heard this text.
abbrev pub HasHeard : TextCheck → List ℕ → List ℕ → Type 0
HasHeard Beginning pending text = text ≡ pending
HasHeard (Lines checker) pending text = IsTakenUpTo pending text (HasTaken checker)
HasHeard (Over e) pending text = IsRefusedSo e text

-- the same of what a handle holds
abbrev pub HasHeardText : HeldCheck → List ℕ → Type 0
HasHeardText c text = HasHeard c.check c.pending.items text

-- the code of a refused text
abbrev pub refusal_code : CheckError → ℕ
refusal_code (errors.Refused line fault) = fault_code fault
refusal_code errors.Memory = 2

-- the code of a check: 0 as long as it goes on, and otherwise why it is over
abbrev pub check_code : TextCheck → ℕ
check_code (Over e) = refusal_code e
check_code _ = 0

-- The verdict is right for the text. Out of memory says nothing about it.
abbrev pub SaysUnlessMemory : List ℕ → Result Report CheckError → Type 0
SaysUnlessMemory text (Ok report) = IsLegalText text report
SaysUnlessMemory text (Err (errors.Refused line fault)) = Fails text line fault
SaysUnlessMemory text (Err errors.Memory) = Unit {0}

-- The verdict is right for the text, and no other verdict is, unless memory ran out.
pub record IsPiecesVerdict (text : List ℕ) (verdict : Result Report CheckError) : Type 0 where
  pub says : SaysUnlessMemory text verdict
  pub accepts : (report : Report) → IsLegalText text report → IsOrMemory verdict (Ok report)
  pub refuses : RefusesFaulty text verdict

-- C is told such a verdict.
pub record EndsCheck (text : List ℕ) (code : ℕ) (out out' : LtReport) : Type 0 where
  pub verdict : Result Report CheckError
  pub told : Tells verdict code out out'
  pub right : IsPiecesVerdict text verdict

-- The handle holds a check, and this holds of it.
abbrev pub OnCheck : (HeldCheck → Type 0) → Option HeldCheck → Type 0
OnCheck P None = ⊥
OnCheck P (Some c) = P c

-- The handle held a check and holds one, and this holds of both.
abbrev pub OnChecks : (HeldCheck → HeldCheck → Type 0) → Option HeldCheck → Option HeldCheck → Type 0
OnChecks P (Some before) (Some after) = P before after
OnChecks P _ _ = ⊥

-- The check has heard this piece after what it had heard, and the code says whether it goes on.
pub record HearsPiece (piece : List ℕ) (code : ℕ) (before after : HeldCheck) : Type 0 where
  pub heard : (text : List ℕ) → HasHeardText before text → IsCountable (text ++ piece) → HasHeardText after (text ++ piece)
  pub code_is : code ≡ check_code after.check
