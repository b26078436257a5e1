-- How the program ends, and what it says if it fails.
use Rattle.std.specs.Prelude.{ℕ, List, [], ◌++◌, decimal, codes, Result, Ok, Err}
use Rattle.lt_checker.specs.declared.checker.CheckError.TheVariants as checks
use Rattle.lt_checker.specs.Fault.{fault_name}
use Rattle.lt_script.specs.declared.error.ScriptFault.{ScriptFault}
use Rattle.lt_script.specs.declared.error.ScriptFault.TheVariants.{BadPass, BadCall, BadWords, BadTxn, BadTime, BadMax, BadKey, BadAccess}
use Rattle.lt_runner.specs.declared.outcome.Finish.{Finish}
use Rattle.lt_runner.specs.declared.outcome.Finish.TheVariants.{Done, TurnsOut}
use Rattle.lt_tool.specs.declared.script.RunError.{RunError}
use Rattle.lt_tool.specs.declared.script.RunError.TheVariants.{Read, TooLong, Script, Memory, Counts, Write}
use Rattle.lt_tool.specs.declared.failure.Failure.{Failure}
use Rattle.lt_tool.specs.declared.failure.Failure.TheVariants as failures
use Rattle.lt_tool.specs.declared.check.CheckTextError.{CheckTextError}
use Rattle.lt_tool.specs.declared.check.CheckTextError.TheVariants as texts

abbrev pub error_status : RunError → ℕ
error_status (Script line fault) = 1
error_status TooLong = 1
error_status Memory = 4
error_status Counts = 4
error_status Read = 5
error_status Write = 5

abbrev pub check_status : CheckTextError → ℕ
check_status (texts.Check (checks.Refused line fault)) = 1
check_status (texts.Check checks.Memory) = 4
check_status texts.TooLong = 1
check_status texts.Read = 5
check_status texts.Write = 5

abbrev pub failure_status : Failure → ℕ
failure_status failures.CommandLine = 2
failure_status failures.Memory = 4
failure_status failures.Help = 5
failure_status (failures.Run e) = error_status e
failure_status (failures.Check e) = check_status e

abbrev pub status_of : Result Finish Failure → ℕ
status_of (Ok Done) = 0
status_of (Ok TurnsOut) = 3
status_of (Err e) = failure_status e

-- The name of a script's fault.
abbrev pub script_fault_name : ScriptFault → List ℕ
script_fault_name BadPass = codes "BadPass"
script_fault_name BadCall = codes "BadCall"
script_fault_name BadWords = codes "BadWords"
script_fault_name BadTxn = codes "BadTxn"
script_fault_name BadTime = codes "BadTime"
script_fault_name BadMax = codes "BadMax"
script_fault_name BadKey = codes "BadKey"
script_fault_name BadAccess = codes "BadAccess"

-- The end of the line that reports the fault of this name.
abbrev pub fault_end : List ℕ → List ℕ
fault_end name = codes ": " ++ name ++ codes "\n"

-- The line that reports the fault of this name.
abbrev pub line_message : ℕ → List ℕ → List ℕ
line_message line name = codes "lockrun: line " ++ decimal line ++ fault_end name

abbrev pub error_message : RunError → List ℕ
error_message (Script line fault) = line_message line (script_fault_name fault)
error_message TooLong = codes "lockrun: text too long\n"
error_message Memory = codes "lockrun: memory\n"
error_message Counts = codes "lockrun: counts\n"
error_message Read = codes "lockrun: read\n"
error_message Write = codes "lockrun: write\n"

abbrev pub check_message : CheckTextError → List ℕ
check_message (texts.Check (checks.Refused line fault)) = line_message line (fault_name fault)
check_message (texts.Check checks.Memory) = codes "lockrun: memory\n"
check_message texts.TooLong = codes "lockrun: text too long\n"
check_message texts.Read = codes "lockrun: read\n"
check_message texts.Write = codes "lockrun: write\n"

abbrev pub failure_message : Failure → List ℕ
failure_message failures.CommandLine = codes "lockrun: command line\n"
failure_message failures.Memory = codes "lockrun: memory\n"
failure_message failures.Help = codes "lockrun: write\n"
failure_message (failures.Run e) = error_message e
failure_message (failures.Check e) = check_message e

-- The line on standard error, which is empty if the work was done.
abbrev pub message_of : Result Finish Failure → List ℕ
message_of (Ok Done) = []
message_of (Ok TurnsOut) = codes "lockrun: turns\n"
message_of (Err e) = failure_message e
