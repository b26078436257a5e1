-- The lines of a pass that a worker executed.
use Rattle.std.specs.Prelude.{ℕ, ◌≡◌, ◌⊎◌, ◌==◌, Bool, true, false, List, [], ◌∷◌, ◌++◌, map, filter, None}
use Rattle.std.specs.List.{flat_map, AllByRecursion}
use Rattle.lt_words.specs.History.{draws_of}
use Rattle.lt_words.specs.Row.{PassState}
use Rattle.lt_walk.specs.Machine.{Step}
use Rattle.lt_script.specs.declared.command.Command.{Command}
use Rattle.lt_runner.specs.declared.session.Session.{Session}
use Rattle.lt_runner.specs.declared.session.Session.TheVariants.{Free}
use Rattle.lt_runner.specs.declared.answer.LineAnswer.{LineAnswer}
use Rattle.lt_runner.specs.declared.answer.LineAnswer.TheVariants.{Turns}
use Rattle.lt_runner.specs.declared.answer.AnswerLine.{AnswerLine}
use Rattle.lt_runner.specs.declared.outcome.Finish.{Finish}
use Rattle.lt_runner.specs.declared.outcome.Finish.TheVariants.{Done, TurnsOut}
use Rattle.lt_runner.specs.declared.outcome.Work.{Work}
use Rattle.lt_runner.specs.Outcomes.{OutcomeTells}
use Rattle.lt_runner.specs.Sessions.{session_request, session_pass}
use Rattle.lt_runner.specs.Execution.{Does}
use Rattle.lt_runner.specs.Gates.{GateAnswers, MayRefuse, MayRefuseNext, MayRun}
use Rattle.lt_runner.specs.Machine.{Rules, ExecutedLine, Runs, IsLineDone, IsOutOnlyAt, lets_of, reads_of, numbers_of_executed, lets_of_executed}

abbrev pub is_turns : LineAnswer → Bool
is_turns Turns = true
is_turns _ = false

-- The lines of one pass, in their order.
abbrev pub pass_lines : ℕ → List Command → List Command
pass_lines pass commands = filter (λ c. c.pass == pass) commands

abbrev pub answer_line : ExecutedLine → AnswerLine
answer_line d = record { line = d.line.line; answer = d.answer }

abbrev pub line_of_executed : ExecutedLine → Command
line_of_executed d = d.line

abbrev pub steps_of_executed : ExecutedLine → List Step
steps_of_executed d = d.steps

-- The pass, which had no request at first, executed these lines. Its answers are those of the machine of a pass,
-- and what they tell is in what the pass has seen afterwards.
pub record AreDone (rules : Rules) (old : PassState) (lines : List Command) (session : Session) (answers : List AnswerLine) (lines_done : List ExecutedLine) : Type 0 where
  pub lines_are : map line_of_executed lines_done ≡ lines
  pub runs : Runs rules None lines_done (session_request session)
  pub answers_are : answers ≡ map answer_line lines_done
  pub tells : OutcomeTells old (session_pass session) (flat_map steps_of_executed lines_done) (flat_map numbers_of_executed lines_done) (flat_map lets_of_executed lines_done)
  pub numbers_out : AllByRecursion (λ d. IsOutOnlyAt rules.max_requests (draws_of (session_pass session).seen) d.answer) lines_done

-- None of the lines used up the turns.
abbrev pub NoTurns : List ExecutedLine → Type 0
NoTurns lines_done = AllByRecursion (λ d. is_turns d.answer ≡ false) lines_done

-- The last line used up the turns, and no line before it did.
pub record EndsInTurns (lines_done : List ExecutedLine) : Type 0 where
  pub prefix : List ExecutedLine
  pub last : ExecutedLine
  pub all : lines_done ≡ prefix ++ last ∷ []
  pub none : NoTurns prefix
  pub turns : last.answer ≡ Turns

-- Done: no line is left. Otherwise the last line used up the turns, or the gate may refuse the next line.
abbrev pub HasEnded : GateAnswers → List ExecutedLine → List Command → Finish → Type 0
HasEnded gate lines_done rest Done = (rest ≡ []) × NoTurns lines_done
HasEnded gate lines_done rest TurnsOut = EndsInTurns lines_done ⊎ (MayRefuseNext gate rest × NoTurns lines_done)

-- A worker executed a prefix of the lines, up to the rest, and these are the executed lines. The gate may let each of
-- them run.
pub record IsRun (rules : Rules) (gate : GateAnswers) (old : PassState) (lines : List Command) (lines_done : List ExecutedLine) (w : Work) : Type 0 where
  pub prefix : List Command
  pub rest : List Command
  pub all : lines ≡ prefix ++ rest
  pub done : AreDone rules old prefix w.session w.answers.items lines_done
  pub may_run : AllByRecursion (λ d. MayRun gate d.line) lines_done
  pub ended : HasEnded gate lines_done rest w.finish

abbrev pub IsWorked : Rules → GateAnswers → PassState → List Command → Work → Type 0
IsWorked rules gate old lines w = (lines_done : List ExecutedLine) × IsRun rules gate old lines lines_done w

-- The pass has not executed a line yet.
pub record IsBegun (p : PassState) (w : Work) : Type 0 where
  pub session : w.session ≡ Free p
  pub answers : w.answers.items ≡ []
  pub finish : w.finish ≡ Done

-- ---- one more line

-- One more line was executed and answered.
pub record ExecutesLine (rules : Rules) (line : Command) (old : Session) (answers : List AnswerLine) (new : Session) (more : List AnswerLine) (out : Bool) : Type 0 where
  pub answer : LineAnswer
  pub does : Does (IsLineDone rules line.action) (reads_of line.action) (lets_of line.action) old answer new
  pub numbers_out : IsOutOnlyAt rules.max_requests (draws_of (session_pass new).seen) answer
  pub told : more ≡ answers ++ (record { line = line.line; answer = answer }) ∷ []
  pub out_is : out ≡ is_turns answer

abbrev pub finish_of : Bool → Finish
finish_of true = TurnsOut
finish_of false = Done

-- The gate, which may refuse the line, ended the pass before it, and nothing else changed.
pub record IsStoppedBy (gate : GateAnswers) (session : Session) (answers : List AnswerLine) (line : Command) (new : Work) : Type 0 where
  pub refused : MayRefuse gate line
  pub session_same : new.session ≡ session
  pub answers_same : new.answers.items ≡ answers
  pub finish_is : new.finish ≡ TurnsOut

-- The line, which the gate may let run, was executed. The pass proceeds unless the line used up the turns.
pub record LineIsExecuted (rules : Rules) (gate : GateAnswers) (session : Session) (answers : List AnswerLine) (line : Command) (new : Work) : Type 0 where
  pub may_run : MayRun gate line
  pub out : Bool
  pub takes : ExecutesLine rules line session answers new.session new.answers.items out
  pub finish_is : new.finish ≡ finish_of out

abbrev pub TakesOn : Rules → GateAnswers → Session → List AnswerLine → Command → Work → Type 0
TakesOn rules gate session answers line new = IsStoppedBy gate session answers line new ⊎ LineIsExecuted rules gate session answers line new

-- A pass that has ended does nothing more.
abbrev pub WorkGoesOn : Rules → GateAnswers → Finish → Work → Command → Work → Type 0
WorkGoesOn rules gate TurnsOut old line new = new ≡ old
WorkGoesOn rules gate Done old line new = TakesOn rules gate old.session old.answers.items line new
