-- What a run of a script promises.
use Rattle.std.specs.Prelude.{ℕ, ◌≡◌, ◌≤◌, ◌+◌, ◌<◌, List, [], ◌∷◌, ◌++◌, length, map, None, Option}
use Rattle.std.specs.Global.{Vec}
use Rattle.std.specs.List.{flat_map, AllByRecursion}
use mathlib.Core.List.{IsPrefix}
use Rattle.lt_entry.specs.declared.entry.Entry.{Entry}
use Rattle.lt_entry.specs.Legal.{AreLegalKeys}
use Rattle.lt_entry.specs.Ranges.{IsInRange}
use Rattle.lt_words.specs.declared.event.Event.{Event}
use Rattle.lt_words.specs.History.{part, draws_of, DrewIn, IsLegalHistory}
use Rattle.lt_script.specs.declared.command.Command.{Command}
use Rattle.lt_walk.specs.Machine.{WalkState}
use Rattle.lt_runner.specs.declared.answer.AnswerLine.{AnswerLine}
use Rattle.lt_runner.specs.declared.outcome.Finish.{Finish}
use Rattle.lt_runner.specs.declared.outcome.Ran.{Ran}
use Rattle.lt_runner.specs.Machine.{Rules, ExecutedLine, Runs, IsOutOnlyAt}
use Rattle.lt_runner.specs.Gates.{GateAnswers, MayRun}
use Rattle.lt_runner.specs.Worked.{HasEnded, answer_line, line_of_executed, pass_lines}
use Rattle.lt_runner.specs.Turns.{IsAmong, AreInOrder, AllHear, somes}
use Rattle.lt_runner.specs.Standing.{Finals, final_of, AllStandAtTheEnd, AreAll, run_numbers}
use Rattle.lt_runner.specs.Closing.{finish_all}
use Rattle.lt_ids.specs.declared.limits.TheConstants.{MAX_REQUEST, MAX_WAIT}

-- The machine of the pass, starting without a request, answers a prefix of the pass's lines. The gate may let each of
-- them run. How the pass ended tells what happened to the rest.
pub record IsAnswered (rules : Rules) (gate : GateAnswers) (pass : ℕ) (lines : List Command) (lines_done : List ExecutedLine) (answers : List AnswerLine) (finish : Finish) : Type 0 where
  pub rest : List Command
  pub all : lines ≡ map line_of_executed lines_done ++ rest
  pub after : Option WalkState
  pub runs : Runs rules None lines_done after
  pub answers_are : answers ≡ map answer_line lines_done
  pub may_run : AllByRecursion (λ d. MayRun gate d.line) lines_done
  pub ended : HasEnded gate lines_done rest finish

-- The same for all passes from this number on.
abbrev pub AreAnswered : Rules → GateAnswers → List Command → ℕ → List (List ExecutedLine) → List (Vec AnswerLine) → List Finish → Type 0
AreAnswered rules gate commands n [] [] [] = Unit {0}
AreAnswered rules gate commands n (ds ∷ dss) (a ∷ as') (f ∷ fs) = IsAnswered rules gate n (pass_lines n commands) ds a.items f × AreAnswered rules gate commands (n + 1) dss as' fs
AreAnswered rules gate commands n _ _ _ = ⊥

-- The histories of all shards, concatenated.
abbrev pub all_entries : List (Vec Entry) → List Entry
all_entries histories = flat_map (λ h. h.items) histories

-- The limits of a script's run. Requests and waits have the greatest limits possible.
abbrev pub run_rules : ℕ → Option ℕ → Rules
run_rules max_steps turns = record { max_waits = MAX_WAIT; max_steps = max_steps; max_requests = MAX_REQUEST; turns = turns }

-- Each number in an answer was drawn by the pass of its line, for all passes from this number on.
abbrev pub AreDrawn : List Event → ℕ → List (List ExecutedLine) → Type 0
AreDrawn whole n [] = Unit {0}
AreDrawn whole n (ds ∷ dss) = AllByRecursion (DrewIn whole n) (run_numbers ds) × AreDrawn whole (n + 1) dss

-- One legal history of all shards: the final history of each shard is a prefix of the shard's part of it, and each
-- number in an answer is one of its draws, by the pass of the line.
pub record IsWhole (shards : ℕ) (finals : Finals) (lines_done : List (List ExecutedLine)) (whole : List Event) : Type 0 where
  pub legal : IsLegalHistory shards whole
  pub parts : (s : ℕ) → s < shards → IsPrefix (final_of finals s) (part s whole)
  pub drawn : AreDrawn whole 1 lines_done

-- The lines hear one another in a history that begins the one history of all shards. Its steps are in the final
-- histories.
pub record IsHeard (shards : ℕ) (finals : Finals) (whole : List Event) (all : List ExecutedLine) : Type 0 where
  pub history : List Event
  pub within : IsPrefix history whole
  pub parts : (s : ℕ) → s < shards → IsPrefix (part s history) (final_of finals s)
  pub all_hear : AllHear shards history all

-- The machine of each pass answers a prefix of its lines, and all of them if the run is done. On one thread the
-- lines are executed in their order. The final histories, one for each shard, hold exactly the steps that the
-- answers tell. They are legal for every key, no longer than the limit, and can be written as a text of histories.
-- They are parts of one legal history of all shards, which has as many draws as the run says. On one thread, each line
-- that reads the status word hears every let of the steps of the lines before it. A line is answered `NumbersOut` only
-- if the one history has as many draws as a run may make. It may have more draws than the answers tell.
pub record IsRan (rules : Rules) (gate : GateAnswers) (shards : ℕ) (commands : List Command) (ran : Ran) : Type 0 where
  pub lines_done : List (List ExecutedLine)
  pub finishes : List Finish
  pub among : AllByRecursion (IsAmong (length lines_done)) commands
  pub answered : AreAnswered rules gate commands 1 lines_done ran.answers.items finishes
  pub finish : ran.finish ≡ finish_all finishes
  pub many : length ran.histories.items ≡ shards
  pub stand : AllStandAtTheEnd shards (map (λ h. h.items) ran.histories.items) 1 lines_done
  pub all : AreAll shards (map (λ h. h.items) ran.histories.items) lines_done
  pub in_order : rules.turns ≡ None → AreInOrder shards commands lines_done
  pub whole : List Event
  pub is_whole : IsWhole shards (map (λ h. h.items) ran.histories.items) lines_done whole
  pub heard : (e : rules.turns ≡ None) → IsHeard shards (map (λ h. h.items) ran.histories.items) whole (somes (in_order e).executed)
  pub draws : ran.draws ≡ draws_of whole
  pub numbers_out : AllByRecursion (AllByRecursion (λ d. IsOutOnlyAt rules.max_requests (draws_of whole) d.answer)) lines_done
  pub limit : AllByRecursion (λ h. length h.items ≤ rules.max_steps) ran.histories.items
  pub legal : AreLegalKeys (all_entries ran.histories.items)
  pub in_range : AllByRecursion IsInRange (all_entries ran.histories.items)
