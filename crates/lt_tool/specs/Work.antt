-- What the program did for its words.
use Rattle.std.specs.Prelude.{ℕ, ◌≡◌, List, Option, Some, None, Result, Ok, Err}
use Rattle.std.specs.Io.KnownBytes.{Appends}
use Rattle.std.specs.String.{string_bytes}
use Rattle.lt_tool.specs.declared.check.CheckTextError.TheVariants as checks
use Rattle.lt_tool.specs.declared.failure.Failure.{Failure}
use Rattle.lt_tool.specs.declared.failure.Failure.TheVariants as failures
use Rattle.lt_tool.specs.declared.script.RunError.TheVariants as runs
use Rattle.lt_checker.specs.declared.checker.Report.{Report}
use Rattle.lt_runner.specs.declared.outcome.Finish.{Finish}
use Rattle.lt_runner.specs.declared.outcome.Finish.TheVariants.{Done}
use Rattle.lt_runner.specs.Gates.{open_gate}
use Rattle.lockrun_words.specs.declared.options.Options.{Options}
use Rattle.lt_tool.specs.Check.{IsChecked, IsUnchecked, ToldInPart, IsUpgraded, UpgradedInPart, report_line}
use Rattle.lockrun_words.specs.declared.words.Job.{Job}
use Rattle.lockrun_words.specs.declared.words.Job.TheVariants as jobs
use Rattle.lockrun_words.specs.declared.words.WordsError.{WordsError}
use Rattle.lockrun_words.specs.declared.words.WordsError.TheVariants as errors
use Rattle.lt_writer.specs.Puts.{AppendsPrefix}
use Rattle.lt_tool.specs.Output.{IsScriptRefused, WritesOutput, WritesInPart}
use Rattle.lockrun_words.specs.Words.{IsReadOf}

-- The text is legal, and the writer has received its line and nothing else.
pub record ReportIsWritten (source old new : Option (List ℕ)) : Type 0 where
  pub report : Report
  pub checked : IsChecked source report
  pub written : Appends old new (report_line report)

-- The text is legal, and the writer has received it as a text of the latest version, and nothing else.
pub record Upgraded (source old new : Option (List ℕ)) : Type 0 where
  pub report : Report
  pub is_upgraded : IsUpgraded source old new report

-- Why a script was not run, and what was written then.
abbrev pub IsFailedRun : Options → Failure → Option (List ℕ) → Option (List ℕ) → Option (List ℕ) → Type 0
IsFailedRun options (failures.Run runs.Write) source old new = WritesInPart options open_gate source old new
IsFailedRun options (failures.Run e) source old new = IsScriptRefused e source
IsFailedRun options _ source old new = ⊥

-- Why a text was not answered with its numbers, and what was written then.
abbrev pub IsFailedCheck : Failure → Option (List ℕ) → Option (List ℕ) → Option (List ℕ) → Type 0
IsFailedCheck (failures.Check checks.Write) source old new = ToldInPart source old new
IsFailedCheck (failures.Check e) source old new = IsUnchecked e source
IsFailedCheck _ source old new = ⊥

-- Why a text was not upgraded, and what was written then.
abbrev pub IsFailedUpgrade : Failure → Option (List ℕ) → Option (List ℕ) → Option (List ℕ) → Type 0
IsFailedUpgrade (failures.Check checks.Write) source old new = UpgradedInPart source old new
IsFailedUpgrade (failures.Check e) source old new = IsUnchecked e source
IsFailedUpgrade _ source old new = ⊥

-- The failure is not that of a write.
abbrev pub LeavesOutput : Failure → Type 0
LeavesOutput failures.Help = ⊥
LeavesOutput (failures.Run runs.Write) = ⊥
LeavesOutput (failures.Check checks.Write) = ⊥
LeavesOutput _ = Unit {0}

-- ---- jobs

-- The bytes that a job reads: those of the input, or those of its file, which are not known.
abbrev pub source_of : {A : Type 0} → Option A → Option (List ℕ) → Option (List ℕ)
source_of None input = input
source_of (Some file) input = None

-- The job was done, and ended in this way.
abbrev pub JobIsDone : Job → Finish → Option (List ℕ) → Option (List ℕ) → Option (List ℕ) → Type 0
JobIsDone (jobs.Run file options) finish input old new = WritesOutput options open_gate finish (source_of file input) old new
JobIsDone (jobs.Check file) finish input old new = (finish ≡ Done) × ReportIsWritten (source_of file input) old new
JobIsDone (jobs.Upgrade file) finish input old new = (finish ≡ Done) × Upgraded (source_of file input) old new

abbrev pub IsFailed : Job → Failure → Option (List ℕ) → Option (List ℕ) → Option (List ℕ) → Type 0
IsFailed (jobs.Run file options) e input old new = IsFailedRun options e (source_of file input) old new
IsFailed (jobs.Check file) e input old new = IsFailedCheck e (source_of file input) old new
IsFailed (jobs.Upgrade file) e input old new = IsFailedUpgrade e (source_of file input) old new

-- The job has no file, so it reads the input.
abbrev pub ReadsInput : Job → Type 0
ReadsInput (jobs.Run None options) = Unit {0}
ReadsInput (jobs.Check None) = Unit {0}
ReadsInput (jobs.Upgrade None) = Unit {0}
ReadsInput _ = ⊥

-- ---- words

-- The words have no fault, and name a job that reads the input.
pub record AskForInput (words : List (List ℕ)) : Type 0 where
  pub job : Job
  pub read : IsReadOf words (Ok job)
  pub reads : ReadsInput job

-- What the words were read as was done: their job, or the printing of their help.
abbrev pub IsDoneFor : Result Job WordsError → Finish → Option (List ℕ) → Option (List ℕ) → Option (List ℕ) → Type 0
IsDoneFor (Ok job) finish input old new = JobIsDone job finish input old new
IsDoneFor (Err (errors.Help text)) finish input old new = (finish ≡ Done) × Appends old new (string_bytes text)
IsDoneFor (Err _) finish input old new = ⊥

-- Why that was not done.
abbrev pub IsFailedFor : Result Job WordsError → Failure → Option (List ℕ) → Option (List ℕ) → Option (List ℕ) → Type 0
IsFailedFor (Ok job) e input old new = IsFailed job e input old new
IsFailedFor (Err (errors.Help text)) e input old new = (e ≡ failures.Help) × AppendsPrefix old new (string_bytes text)
IsFailedFor (Err errors.Refused) e input old new = e ≡ failures.CommandLine
IsFailedFor (Err errors.Memory) e input old new = e ≡ failures.Memory

pub record Performs (words : List (List ℕ)) (finish : Finish) (input old new : Option (List ℕ)) : Type 0 where
  pub said : Result Job WordsError
  pub read : IsReadOf words said
  pub done : IsDoneFor said finish input old new

pub record WorkFails (words : List (List ℕ)) (e : Failure) (input old new : Option (List ℕ)) : Type 0 where
  pub said : Result Job WordsError
  pub read : IsReadOf words said
  pub failed : IsFailedFor said e input old new
