-- What C is told of a text of histories.
use Rattle.std.specs.Prelude.{ℕ, ◌≡◌, List, Result, Ok, Err}
use Rattle.lt_checker.specs.declared.checker.Report.{Report}
use Rattle.lt_checker.specs.declared.checker.CheckError.{CheckError}
use Rattle.lt_checker.specs.declared.checker.CheckError.TheVariants as errors
use Rattle.lt_checker.specs.Verdict.{Says, IsLegalText, IsOrMemory, RefusesFaulty}
use Rattle.lt_handles.specs.declared.shapes.LtReport.{LtReport}
use Rattle.lt_handles.specs.Codes.{fault_code}

-- what C is told of a legal text, as the check reports it
abbrev pub legal_report : LtReport → Report
legal_report out = record { version = out.version; keys = out.keys; steps = out.steps }

-- The code and the report tell this verdict. If memory ran out, the report is as it was.
abbrev pub Tells : Result Report CheckError → ℕ → LtReport → LtReport → Type 0
Tells (Ok report) code out out' =
    (code ≡ 0) × (out' ≡ record { version = report.version; keys = report.keys; steps = report.steps; line = 0 })
Tells (Err (errors.Refused line fault)) code out out' =
    (code ≡ fault_code fault) × (out' ≡ record { version = 0; keys = 0; steps = 0; line = line })
Tells (Err errors.Memory) code out out' = (code ≡ 2) × (out' ≡ out)

-- C is told a verdict that is right. A legal text is accepted and another one is refused with its first fault, unless
-- memory ran out.
pub record Checks (text : List ℕ) (code : ℕ) (out out' : LtReport) : Type 0 where
  pub verdict : Result Report CheckError
  pub told : Tells verdict code out out'
  pub says : Says text verdict
  pub legal : (report : Report) → IsLegalText text report → IsOrMemory verdict (Ok report)
  pub faulty : RefusesFaulty text verdict
