-- What a run writes, and what the output means.
use Rattle.std.specs.Prelude.{ℕ, ◌≡◌, ◌⊎◌, ◌<◌, ◌≤◌, ◌^◌, List, ◌++◌, length, Option, Some, None, IfSome, Result, Ok, Err, if◌then◌else◌}
use Rattle.std.specs.Io.KnownBytes.{Appends}
use Rattle.lt_checker.specs.declared.checker.Report.{Report}
use Rattle.lt_checker.specs.Histories.{IsTextOf}
use Rattle.lt_writer.specs.Puts.{AppendsPrefix}
use Rattle.lt_checker.specs.Verdict.{IsLegalText}
use Rattle.lt_script.specs.declared.command.Command.{Command}
use Rattle.lt_script.specs.declared.error.ScriptError.{ScriptError}
use Rattle.lt_script.specs.declared.error.ScriptError.TheVariants.{Fault, Memory}
use Rattle.lt_script.specs.declared.error.ScriptFault.{ScriptFault}
use Rattle.lt_script.specs.Script.{commands_of}
use Rattle.lt_runner.specs.declared.outcome.Finish.{Finish}
use Rattle.lt_runner.specs.declared.outcome.Ran.{Ran}
use Rattle.lt_runner.specs.declared.outcome.RunFault.{RunFault}
use Rattle.lt_runner.specs.declared.outcome.RunFault.TheVariants as faults
use Rattle.lt_runner.specs.Machine.{Rules}
use Rattle.lt_runner.specs.Ran.{IsRan, all_entries, run_rules}
use Rattle.lt_runner.specs.Gates.{GateAnswers}
use Rattle.lt_tool.specs.declared.input.Unread.{Unread}
use Rattle.lt_tool.specs.declared.input.Unread.TheVariants as inputs
use Rattle.lockrun_words.specs.declared.options.Options.{Options}
use Rattle.lt_tool.specs.declared.script.RunError.{RunError}
use Rattle.lt_tool.specs.declared.script.RunError.TheVariants as errors
use Rattle.lt_tool.specs.Answers.{answers_text}

-- How often a line `await` may poll, if there are threads.
abbrev pub turns_of : Options → Option ℕ
turns_of options = if options.threads then Some options.turns else None

-- The limits that the options set for a run.
abbrev pub rules_of_options : Options → Rules
rules_of_options options = run_rules options.steps (turns_of options)

-- The text is the output of this run: its answers, and then its histories.
pub record IsComposed (ran : Ran) (text : List ℕ) (finish : Finish) : Type 0 where
  pub histories : List ℕ
  pub is_text : IsTextOf histories (all_entries ran.histories.items)
  pub whole : text ≡ answers_text ran.answers.items ++ histories
  pub finish_is : finish ≡ ran.finish

-- The commands were run. The text answers each command that was run, and ends with a text of legal histories in the
-- latest version, which a check accepts. Its entries are those that the run left, and everything that the answers
-- tell is in them.
pub record IsOutput (options : Options) (gate : GateAnswers) (commands : List Command) (text : List ℕ) (finish : Finish) : Type 0 where
  pub ran : Ran
  pub is_ran : IsRan (rules_of_options options) gate options.shards commands ran
  pub finish_is : finish ≡ ran.finish
  pub histories : List ℕ
  pub report : Report
  pub latest : report.version ≡ 2
  pub legal : IsLegalText histories report
  pub entries_are : legal.entries ≡ all_entries ran.histories.items
  pub whole : text ≡ answers_text ran.answers.items ++ histories

-- The text is short enough to be read.
abbrev pub IsShort : List ℕ → Type 0
IsShort text = length text ≤ 2 ^ 24

-- The commands are those of the script, if the bytes of the script are known.
abbrev pub AreCommandsOf : List Command → Option (List ℕ) → Type 0
AreCommandsOf commands script = IfSome script (λ text. IsShort text × (commands_of text ≡ Ok commands))

-- The bytes are short enough to be read and are a script: each of its lines can be run.
pub record IsScript (text : List ℕ) : Type 0 where
  pub commands : List Command
  pub are_of : IsShort text × (commands_of text ≡ Ok commands)

-- The writer has received the output of the script and nothing else, and the run ended in this way.
pub record WritesOutput (options : Options) (gate : GateAnswers) (finish : Finish) (script old new : Option (List ℕ)) : Type 0 where
  pub commands : List Command
  pub text : List ℕ
  pub are_of : AreCommandsOf commands script
  pub output : IsOutput options gate commands text finish
  pub written : Appends old new text

-- The writer has received a prefix of the output of the script.
pub record WritesInPart (options : Options) (gate : GateAnswers) (script old new : Option (List ℕ)) : Type 0 where
  pub commands : List Command
  pub text : List ℕ
  pub finish : Finish
  pub are_of : AreCommandsOf commands script
  pub output : IsOutput options gate commands text finish
  pub written : AppendsPrefix old new text

-- Why a script was not run, if its bytes are known. A table is closed only after a script was run.
abbrev pub IsScriptRefused : RunError → Option (List ℕ) → Type 0
IsScriptRefused errors.TooLong script = IfSome script (λ text. 2 ^ 24 < length text)
IsScriptRefused (errors.Script line fault) script = IfSome script (λ text. IsShort text × (commands_of text ≡ Err (Fault line fault)))
IsScriptRefused errors.Counts script = IfSome script IsScript
IsScriptRefused _ script = Unit {0}

-- A read failed, or memory ran out.
abbrev pub IsRunStopped : {X : Type 0} → Result X RunError → Type 0
IsRunStopped (Err errors.Read) = Unit {0}
IsRunStopped (Err errors.Memory) = Unit {0}
IsRunStopped _ = ⊥

-- The script was refused for this reason, unless a read failed or memory ran out.
abbrev pub IsRunStoppedOr : {X : Type 0} → Result X RunError → RunError → Type 0
IsRunStoppedOr result reason = (result ≡ Err reason) ⊎ IsRunStopped result

-- A short text that is no script is refused with its first faulty line and the first fault in it, unless a read failed
-- or memory ran out.
abbrev pub RefusesFaultyScript : {X : Type 0} → Option (List ℕ) → Result X RunError → Type 0
RefusesFaultyScript script result =
    IfSome script (λ text. (line : ℕ) (fault : ScriptFault) → IsShort text → commands_of text ≡ Err (Fault line fault) → IsRunStoppedOr result (errors.Script line fault))

-- A text of more than 2 ^ 24 bytes is refused as too long, unless a read failed or memory ran out.
abbrev pub RefusesLongScript : {X : Type 0} → Option (List ℕ) → Result X RunError → Type 0
RefusesLongScript script result = IfSome script (λ text. 2 ^ 24 < length text → IsRunStoppedOr result errors.TooLong)

abbrev pub unread_script : Unread → RunError
unread_script inputs.Read = errors.Read
unread_script inputs.TooLong = errors.TooLong
unread_script inputs.Memory = errors.Memory

abbrev pub unscripted : ScriptError → RunError
unscripted (Fault line fault) = errors.Script line fault
unscripted Memory = errors.Memory

abbrev pub unfinished : RunFault → RunError
unfinished faults.Memory = errors.Memory
unfinished faults.Counts = errors.Counts
