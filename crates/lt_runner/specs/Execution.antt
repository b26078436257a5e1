-- The execution of a line by calls of a table.
use Rattle.std.specs.Prelude.{ℕ, ◌≡◌, ◌≤◌, Bool, false, List, [], Option, Some, Result, Ok, Err, IfOk, MatchBool}
use Rattle.lt_ids.specs.Ids.{Wait}
use Rattle.lt_script.specs.declared.command.Action.{Action}
use Rattle.lt_words.specs.History.{draws_of, IsStatus}
use Rattle.lt_words.specs.Shown.{word_of}
use Rattle.lt_shard.specs.declared.answer.Answer.{Answer}
use Rattle.lt_shard.specs.declared.answer.StepError.{StepError}
use Rattle.lt_shard.specs.declared.answer.StepError.TheVariants as steps
use Rattle.lt_walk.specs.declared.scan_results.Poll.{Poll}
use Rattle.lt_walk.specs.Machine.{polled, WalkState, Step}
use Rattle.lt_walk.specs.Reported.{GuardState}
use Rattle.lt_runner.specs.declared.session.Session.{Session}
use Rattle.lt_runner.specs.declared.outcome.OutOfMemory.{OutOfMemory}
use Rattle.lt_runner.specs.declared.answer.LineAnswer.{LineAnswer}
use Rattle.lt_runner.specs.declared.answer.LineAnswer.TheVariants as answers
use Rattle.lt_runner.specs.declared.answer.Refusal.TheVariants as refusals
use Rattle.lt_runner.specs.Outcomes.{OutcomeTells, Hears}
use Rattle.lt_runner.specs.Sessions.{session_request, session_pass}
use Rattle.lt_runner.specs.Machine.{Rules, IsLineDone, IsOutOnlyAt, lets_of, reads_of, numbers_of, let_read, state_after_status}

-- A statement about a line: the request before it, the status word that was read, the answer, the steps, and the
-- request after it.
abbrev pub Fact : Type 1
Fact = Option WalkState → ℕ → LineAnswer → List Step → Option WalkState → Type 0

-- The tickets with which a line proceeds, by the request before it and the status word that was read.
abbrev pub Lets : Type 0
Lets = Option WalkState → ℕ → List Wait

-- Whether the line reads the status word, by the request before it.
abbrev pub Reads : Type 0
Reads = Option WalkState → Bool

-- The line does not read the status word.
abbrev pub no_word : Reads
no_word before = false

-- The line does not proceed by a let.
abbrev pub no_lets : Lets
no_lets before word = []

-- The fact holds of the line's answer and steps, and what they tell is in what the pass has seen after the line. If the
-- line reads the status word, it hears the lets that were shown before.
pub record Does (fact : Fact) (reads : Reads) (lets : Lets) (old : Session) (answer : LineAnswer) (new : Session) : Type 0 where
  pub word : ℕ
  pub steps : List Step
  pub done : fact (session_request old) word answer steps (session_request new)
  pub tells : OutcomeTells (session_pass old) (session_pass new) steps (numbers_of answer) (lets (session_request old) word)
  pub heard : MatchBool (reads (session_request old)) (Hears (session_pass old) (session_pass new) steps word) (Unit {0})

-- The same, with the answer last: what a clause says of the answer of a line that changes a session in its place.
abbrev pub LineDoes : Fact → Reads → Lets → Session → Session → LineAnswer → Type 0
LineDoes fact reads lets old new answer = Does fact reads lets old answer new

-- The answer is that of a line with this action.
abbrev pub IsLineAnswer : Rules → Action → Session → Session → LineAnswer → Type 0
IsLineAnswer rules action old new answer = Does (IsLineDone rules action) (reads_of action) (lets_of action) old answer new

-- The answer says that the numbers are out only if the pass has then seen that many draws.
abbrev pub IsOutOnlyAfter : ℕ → Session → LineAnswer → Type 0
IsOutOnlyAfter max_requests new answer = IsOutOnlyAt max_requests (draws_of (session_pass new).seen) answer

-- The answer of a line whose call makes one step. Out of memory has no answer.
abbrev pub IsCallAnswer : Result Answer StepError → Result LineAnswer OutOfMemory → Type 0
IsCallAnswer (Ok a) told = IfOk told (λ t. t ≡ answers.Replied a.reply)
IsCallAnswer (Err steps.HistoryFull) told = IfOk told (λ t. t ≡ answers.Refused refusals.HistoryFull)
IsCallAnswer (Err steps.Memory) told = IfOk told (λ t. ⊥)

-- One or more polls, the last of which found this.
pub record Polls (old : GuardState) (found : Poll) (new : GuardState) : Type 0 where
  pub word : ℕ
  pub after : new.walk ≡ state_after_status old.walk word
  pub answer : found ≡ polled new.walk.progress
  pub tells : OutcomeTells old.pass new.pass [] [] (let_read (Some old.walk) word)
  pub above : word_of old.pass.number old.pass.shown ≤ word
  pub status : IsStatus new.pass.seen old.pass.number word
