-- The machine of a pass: the answer of each of its lines, the steps that the line makes, and the request that the
-- pass has after it.
use Rattle.std.specs.Prelude.{ℕ, ◌≡◌, ◌≢◌, ◌≤◌, ◌<◌, List, [], ◌∷◌, length, position, Bool, false, Option, Some, None, is_some, Result, Ok, Err, slice_get}
use Rattle.std.specs.Str.{bytes_eq}
use Rattle.lt_ids.specs.Ids.{Wait}
use Rattle.lt_ids.specs.declared.timestamp.Timestamp.{Timestamp}
use Rattle.lt_ids.specs.declared.request.Access.{Access}
use Rattle.lt_rules.specs.declared.call.Call.{Call}
use Rattle.lt_rules.specs.declared.call.Call.TheVariants as calls
use Rattle.lt_shard.specs.declared.answer.Answer.{Answer}
use Rattle.lt_walk.specs.declared.config.Config.{Config}
use Rattle.lt_walk.specs.declared.walk_progress.Mode.{Mode}
use Rattle.lt_walk.specs.declared.walk_progress.Mode.TheVariants.{Awaiting, Let}
use Rattle.lt_walk.specs.declared.scan_results.Scan.{Scan}
use Rattle.lt_walk.specs.declared.scan_results.Scan.TheVariants as scans
use Rattle.lt_walk.specs.declared.scan_results.ScanError.{ScanError}
use Rattle.lt_walk.specs.declared.scan_results.ScanError.TheVariants as refused
use Rattle.lt_walk.specs.declared.scan_results.Poll.{Poll}
use Rattle.lt_walk.specs.declared.scan_results.Poll.TheVariants as polls
use Rattle.lt_walk.specs.Keys.{IsKeyList}
use Rattle.lt_walk.specs.Machine.{after_status, polled, WalkState, Step, IsWalkScan, IsLeft, IsRefusedLeave}
use Rattle.lt_walk.specs.Entered.{at_start}
use Rattle.lt_walk.specs.Reported.{current_wait}
use Rattle.lt_script.specs.declared.command.Action.{Action}
use Rattle.lt_script.specs.declared.command.Action.TheVariants as acts
use Rattle.lt_script.specs.declared.command.Command.{Command}
use Rattle.lt_runner.specs.declared.answer.LineAnswer.{LineAnswer}
use Rattle.lt_runner.specs.declared.answer.LineAnswer.TheVariants as answers
use Rattle.lt_runner.specs.declared.answer.Refusal.{Refusal}
use Rattle.lt_runner.specs.declared.answer.Refusal.TheVariants as refusals

-- The limits of a run: how often a request may wait, how many steps the history of a shard may have, how many
-- numbers may be drawn, and, with threads, how often a line `await` may poll.
pub record Rules : Type 0 where
  pub max_waits : ℕ
  pub max_steps : ℕ
  pub max_requests : ℕ
  pub turns : Option ℕ

-- The limits of a table of this configuration.
abbrev pub rules_of : Config → Option ℕ → Rules
rules_of config turns = record { max_waits = config.max_waits; max_steps = config.max_steps; max_requests = config.max_requests; turns = turns }

-- ---- a pass without a request

abbrev pub IsNone : LineAnswer → List Step → Option WalkState → Type 0
IsNone answer steps after = (answer ≡ answers.NoRequest) × (steps ≡ []) × (after ≡ None)

-- ---- open

-- A request that has just entered.
abbrev pub entered : List (List ℕ × Access) → ℕ → Option ℕ → Timestamp → ℕ → WalkState
entered keys number txn ts longest = record { asked = record { keys = keys; number = number; txn = txn; ts = ts; longest = longest }; progress = at_start; answers = [] }

-- A request entered, with this number.
pub record HasEntered (txn : Option ℕ) (ts : Timestamp) (accesses : List (List ℕ × Access)) (longest number : ℕ) (after : Option WalkState) : Type 0 where
  pub some : accesses ≢ []
  pub few : length accesses ≤ 256
  pub keys : List (List ℕ × Access)
  pub list : IsKeyList accesses keys
  pub state : after ≡ Some (entered keys number txn ts longest)

abbrev pub IsEnterRefused : List (List ℕ × Access) → Refusal → Type 0
IsEnterRefused accesses refusals.NoKeys = accesses ≡ []
IsEnterRefused accesses refusals.TooManyKeys = 256 < length accesses
IsEnterRefused accesses refusals.NumbersOut = (accesses ≢ []) × (length accesses ≤ 256)
IsEnterRefused accesses _ = ⊥

abbrev pub IsEntering : Option ℕ → Timestamp → List (List ℕ × Access) → ℕ → LineAnswer → Option WalkState → Type 0
IsEntering txn ts accesses longest (answers.Request number) after = HasEntered txn ts accesses longest number after
IsEntering txn ts accesses longest (answers.Refused refusal) after = IsEnterRefused accesses refusal × (after ≡ None)
IsEntering txn ts accesses longest _ after = ⊥

-- A pass that already has a request is busy, and nothing is called.
abbrev pub IsOpenAnswered : Option ℕ → Timestamp → List (List ℕ × Access) → ℕ → Option WalkState → ℕ → LineAnswer → List Step → Option WalkState → Type 0
IsOpenAnswered txn ts accesses longest None word answer steps after = (steps ≡ []) × IsEntering txn ts accesses longest answer after
IsOpenAnswered txn ts accesses longest (Some s) word answer steps after = (answer ≡ answers.Busy) × (steps ≡ []) × (after ≡ Some s)

-- ---- scan

-- The answer is this one for the key.
abbrev pub IsToldAt : (List ℕ → LineAnswer) → Option (List ℕ × Access) → LineAnswer → Type 0
IsToldAt told None answer = ⊥
IsToldAt told (Some k) answer = answer ≡ told k.0

-- The answer for a scan with this result.
abbrev pub IsScanAnswer : List (List ℕ × Access) → Result Scan ScanError → LineAnswer → Type 0
IsScanAnswer keys (Ok scans.Proceed) answer = answer ≡ answers.Proceed
IsScanAnswer keys (Ok scans.Rescan) answer = answer ≡ answers.Rescan
IsScanAnswer keys (Ok (scans.Waiting index)) answer = IsToldAt (λ key. answers.WaitingAt key) (slice_get keys index) answer
IsScanAnswer keys (Ok (scans.TooLong index)) answer = IsToldAt (λ key. answers.TooLongAt key) (slice_get keys index) answer
IsScanAnswer keys (Err refused.Leaving) answer = answer ≡ answers.Refused refusals.Leaving
IsScanAnswer keys (Err refused.StillWaiting) answer = answer ≡ answers.Refused refusals.StillWaiting
IsScanAnswer keys (Err refused.WaitsOut) answer = answer ≡ answers.Refused refusals.WaitsOut
IsScanAnswer keys (Err refused.HistoryFull) answer = answer ≡ answers.Refused refusals.HistoryFull
IsScanAnswer keys (Err refused.Memory) answer = ⊥

-- A scan by the request.
pub record IsScanOf (max_waits : ℕ) (s : WalkState) (word : ℕ) (answer : LineAnswer) (steps : List Step) (after : Option WalkState) : Type 0 where
  pub result : Result Scan ScanError
  pub state : WalkState
  pub scan : IsWalkScan max_waits s word steps result state
  pub told : IsScanAnswer s.asked.keys result answer
  pub goes_on : after ≡ Some state

abbrev pub IsScanned : ℕ → Option WalkState → ℕ → LineAnswer → List Step → Option WalkState → Type 0
IsScanned max_waits None word answer steps after = IsNone answer steps after
IsScanned max_waits (Some s) word answer steps after = IsScanOf max_waits s word answer steps after

-- ---- await

-- If the request still waits: on one thread the answer says so, with threads the turns are used up.
abbrev pub still_waiting : Option ℕ → LineAnswer
still_waiting None = answers.Waiting
still_waiting (Some turns) = answers.Turns

abbrev pub poll_answer : Option ℕ → Poll → LineAnswer
poll_answer turns polls.Through = answers.Let
poll_answer turns polls.Waiting = still_waiting turns
poll_answer turns polls.Idle = answers.Idle

-- The request after its status word was read.
abbrev pub state_after_status : WalkState → ℕ → WalkState
state_after_status s word = record s { progress = after_status s.asked.number s.progress word }

abbrev pub IsAwaited : Option ℕ → Option WalkState → ℕ → LineAnswer → List Step → Option WalkState → Type 0
IsAwaited turns None word answer steps after = IsNone answer steps after
IsAwaited turns (Some s) word answer steps after =
    (answer ≡ poll_answer turns (polled (state_after_status s word).progress)) × (steps ≡ []) × (after ≡ Some (state_after_status s word))

-- ---- one step

-- There is exactly one step, this call at the key, and its reply is the answer.
pub record IsOneStep (key : List ℕ) (call : Call) (answer : LineAnswer) (steps : List Step) : Type 0 where
  pub step : Step
  pub alone : steps ≡ step ∷ []
  pub key_is : step.key ≡ key
  pub call_is : step.call ≡ call
  pub told : answer ≡ answers.Replied step.answer.reply

abbrev pub IsReplyAnswered : List ℕ → Call → LineAnswer → List Step → Type 0
IsReplyAnswered key call (answers.Refused refusals.HistoryFull) steps = steps ≡ []
IsReplyAnswered key call answer steps = IsOneStep key call answer steps

-- Acquire, update, finish: calls of the pass, with or without a request.
abbrev pub IsCallAnswered : List ℕ → Call → Option WalkState → ℕ → LineAnswer → List Step → Option WalkState → Type 0
IsCallAnswered key call before word answer steps after = IsReplyAnswered key call answer steps × (after ≡ before)

-- ---- look

-- The index of the key in the request's list.
abbrev pub index_of : List (List ℕ × Access) → List ℕ → Option ℕ
index_of keys key = position (λ k. bytes_eq k.0 key) keys

-- A key that the request did not name is a stranger, and nothing is called.
abbrev pub IsLookAt : Option ℕ → ℕ → List ℕ → LineAnswer → List Step → Type 0
IsLookAt None number key answer steps = (answer ≡ answers.Stranger) × (steps ≡ [])
IsLookAt (Some index) number key answer steps = IsReplyAnswered key (calls.Look number) answer steps

abbrev pub IsLooked : List ℕ → Option WalkState → ℕ → LineAnswer → List Step → Option WalkState → Type 0
IsLooked key None word answer steps after = IsNone answer steps after
IsLooked key (Some s) word answer steps after = IsLookAt (index_of s.asked.keys key) s.asked.number key answer steps × (after ≡ Some s)

-- ---- leave

-- The request leaves every key, with one step at each.
pub record IsLeftAll (s : WalkState) (steps : List Step) : Type 0 where
  pub answered : List Answer
  pub left : IsLeft s steps answered

-- A step was refused; the request resumes leaving at that key.
pub record IsLeaveStopped (s : WalkState) (steps : List Step) (after : Option WalkState) : Type 0 where
  pub state : WalkState
  pub refused : IsRefusedLeave s steps state
  pub goes_on : after ≡ Some state

abbrev pub IsLeaveOf : WalkState → LineAnswer → List Step → Option WalkState → Type 0
IsLeaveOf s answers.Done steps after = IsLeftAll s steps × (after ≡ None)
IsLeaveOf s (answers.Refused refusals.HistoryFull) steps after = IsLeaveStopped s steps after
IsLeaveOf s _ steps after = ⊥

abbrev pub IsLeaveAnswered : Option WalkState → ℕ → LineAnswer → List Step → Option WalkState → Type 0
IsLeaveAnswered None word answer steps after = IsNone answer steps after
IsLeaveAnswered (Some s) word answer steps after = IsLeaveOf s answer steps after

-- ---- lines

-- The line does this: given the status word that was read, it has this answer, makes these steps and leaves this
-- request.
abbrev pub IsLineDone : Rules → Action → Option WalkState → ℕ → LineAnswer → List Step → Option WalkState → Type 0
IsLineDone rules (acts.Open txn ts accesses longest) before word answer steps after = IsOpenAnswered txn ts accesses longest before word answer steps after
IsLineDone rules acts.Scan before word answer steps after = IsScanned rules.max_waits before word answer steps after
IsLineDone rules acts.Await before word answer steps after = IsAwaited rules.turns before word answer steps after
IsLineDone rules (acts.Look key) before word answer steps after = IsLooked key before word answer steps after
IsLineDone rules (acts.Acquire txn ts key) before word answer steps after = IsCallAnswered key (calls.Acquire txn ts) before word answer steps after
IsLineDone rules (acts.Update txn ts key) before word answer steps after = IsCallAnswered key (calls.Update txn ts) before word answer steps after
IsLineDone rules (acts.Finish txn key) before word answer steps after = IsCallAnswered key (calls.Finish txn) before word answer steps after
IsLineDone rules acts.Leave before word answer steps after = IsLeaveAnswered before word answer steps after

-- A line is answered that the numbers are out only if that many were drawn.
abbrev pub IsOutOnlyAt : ℕ → ℕ → LineAnswer → Type 0
IsOutOnlyAt max_requests drawn answer = answer ≡ answers.Refused refusals.NumbersOut → max_requests ≤ drawn

-- The number that the answer says was drawn.
abbrev pub numbers_of : LineAnswer → List ℕ
numbers_of (answers.Request number) = number ∷ []
numbers_of _ = []

abbrev pub let_in_mode : Mode → Wait → List Wait
let_in_mode Let t = t ∷ []
let_in_mode _ t = []

-- The ticket with which an `await` finds that the request was let through.
abbrev pub let_read : Option WalkState → ℕ → List Wait
let_read None word = []
let_read (Some s) word = let_in_mode (state_after_status s word).progress.mode (current_wait s)

abbrev pub let_from : Mode → List Wait → List Wait
let_from Awaiting lets = lets
let_from _ lets = []

-- The ticket with which a scan proceeds, unless an `await` has reported it before.
abbrev pub let_gone_on : Option WalkState → ℕ → List Wait
let_gone_on None word = []
let_gone_on (Some s) word = let_from s.progress.mode (let_read (Some s) word)

-- Whether the line reads the status word: a scan or an await of a pass that has a request.
abbrev pub reads_of : Action → Option WalkState → Bool
reads_of acts.Scan before = is_some before
reads_of acts.Await before = is_some before
reads_of _ before = false

-- The ticket with which the request proceeds at a line, if it does.
abbrev pub lets_of : Action → Option WalkState → ℕ → List Wait
lets_of acts.Scan before word = let_gone_on before word
lets_of acts.Await before word = let_read before word
lets_of _ before word = []

-- An executed line: the request before it, the status word that was read, the answer, the steps, and the request
-- after it.
pub record ExecutedLine : Type 0 where
  pub line : Command
  pub before : Option WalkState
  pub word : ℕ
  pub answer : LineAnswer
  pub steps : List Step
  pub after : Option WalkState

abbrev pub numbers_of_executed : ExecutedLine → List ℕ
numbers_of_executed d = numbers_of d.answer

abbrev pub lets_of_executed : ExecutedLine → List Wait
lets_of_executed d = lets_of d.line.action d.before d.word

-- The lines are executed one after the other, starting from this request.
abbrev pub Runs : Rules → Option WalkState → List ExecutedLine → Option WalkState → Type 0
Runs rules before [] after = after ≡ before
Runs rules before (d ∷ ds) after = (d.before ≡ before) × IsLineDone rules d.line.action before d.word d.answer d.steps d.after × Runs rules d.after ds after
