-- Laws of the machine of a pass.
use Rattle.std.specs.Prelude.{ℕ, ◌≡◌, List, [], ◌∷◌, ◌++◌, Option, Some, None}
use Rattle.lt_rules.specs.declared.call.Call.{Call}
use Rattle.lt_rules.specs.declared.call.Call.TheVariants.{Visit}
use Rattle.lt_rules.specs.declared.call.Reply.TheVariants.{MustWait, TooLong}
use Rattle.lt_walk.specs.Machine.{WalkState, Step}
use Rattle.lt_script.specs.declared.command.Action.TheVariants as acts
use Rattle.lt_runner.specs.declared.answer.LineAnswer.{LineAnswer}
use Rattle.lt_runner.specs.declared.answer.LineAnswer.TheVariants as answers
use Rattle.lt_runner.specs.Machine.{Rules, ExecutedLine, Runs, IsLineDone, lets_of}
use Rattle.lt_walk.specs.Reported.{current_wait}
use Rattle.lt_rules.specs.declared.call.Call.TheVariants as calls
use Rattle.lt_rules.specs.declared.call.Reply.{Reply}
use Rattle.lt_script.specs.declared.command.Action.{Action}

-- The number in the latest `request` answer.
abbrev pub latest_number : Option ℕ → LineAnswer → Option ℕ
latest_number number (answers.Request n) = Some n
latest_number number _ = number

-- If the pass has a request, the request has this number.
abbrev pub HasNumber : Option ℕ → Option WalkState → Type 0
HasNumber number None = Unit {0}
HasNumber number (Some s) = number ≡ Some s.asked.number

-- At each line, the request of the pass has the number of the latest `request` answer before that line.
abbrev pub HaveLatest : Option ℕ → List ExecutedLine → Type 0
HaveLatest number [] = Unit {0}
HaveLatest number (d ∷ ds) = HasNumber number d.before × HaveLatest (latest_number number d.answer) ds

abbrev pub NumbersAreLatest : Type 0
NumbersAreLatest = (rules : Rules) (ds : List ExecutedLine) (after : Option WalkState) → Runs rules None ds after → HaveLatest None ds

abbrev pub IsVisitOf : ℕ → Call → Type 0
IsVisitOf number (Visit ticket txn ts access longest) = ticket.number ≡ number
IsVisitOf number _ = ⊥

-- The last step is a visit to the key by the request of this number, with this reply.
pub record EndsInVisit (number : ℕ) (key : List ℕ) (reply : Reply) (steps : List Step) : Type 0 where
  pub prefix : List Step
  pub last : Step
  pub all : steps ≡ prefix ++ last ∷ []
  pub key_is : last.key ≡ key
  pub visit : IsVisitOf number last.call
  pub replied : last.answer.reply ≡ reply

-- A line that is answered `waiting KEY` has visited that key, and the reply was that the request must wait.
abbrev pub WaitingHasVisit : Type 0
WaitingHasVisit = (rules : Rules) (s : WalkState) (word : ℕ) (key : List ℕ) (steps : List Step) (after : Option WalkState) →
    IsLineDone rules acts.Scan (Some s) word (answers.WaitingAt key) steps after → EndsInVisit s.asked.number key MustWait steps

-- A line that is answered `long KEY` has visited that key, and the reply was that the key has too many writers.
abbrev pub LongHasVisit : Type 0
LongHasVisit = (rules : Rules) (s : WalkState) (word : ℕ) (key : List ℕ) (steps : List Step) (after : Option WalkState) →
    IsLineDone rules acts.Scan (Some s) word (answers.TooLongAt key) steps after → EndsInVisit s.asked.number key TooLong steps

-- A line that is answered `let` proceeds with the ticket of its request's latest wait.
abbrev pub LetHasTicket : Type 0
LetHasTicket = (rules : Rules) (s : WalkState) (word : ℕ) (steps : List Step) (after : Option WalkState) →
    IsLineDone rules acts.Await (Some s) word answers.Let steps after → lets_of acts.Await (Some s) word ≡ current_wait s ∷ []

-- The call that a line makes at a key, given the request of the pass.
abbrev pub IsCallOf : Action → Option WalkState → Step → Type 0
IsCallOf (acts.Acquire txn ts key) before x = (x.key ≡ key) × (x.call ≡ calls.Acquire txn ts)
IsCallOf (acts.Update txn ts key) before x = (x.key ≡ key) × (x.call ≡ calls.Update txn ts)
IsCallOf (acts.Finish txn key) before x = (x.key ≡ key) × (x.call ≡ calls.Finish txn)
IsCallOf (acts.Look key) (Some s) x = (x.key ≡ key) × (x.call ≡ calls.Look s.asked.number)
IsCallOf _ before x = ⊥

-- There is exactly one step: the line's call, with this reply.
pub record HasStep (action : Action) (before : Option WalkState) (reply : Reply) (steps : List Step) : Type 0 where
  pub step : Step
  pub alone : steps ≡ step ∷ []
  pub call : IsCallOf action before step
  pub reply_is : step.answer.reply ≡ reply

-- An answer that is a reply has its step. Only acquire, update, finish and look have such answers.
abbrev pub ReplyHasStep : Type 0
ReplyHasStep = (rules : Rules) (action : Action) (before : Option WalkState) (word : ℕ) (reply : Reply) (steps : List Step) (after : Option WalkState) →
    IsLineDone rules action before word (answers.Replied reply) steps after → HasStep action before reply steps
