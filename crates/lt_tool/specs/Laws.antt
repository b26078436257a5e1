-- What the answer lines and the histories of an output say of one another.
use Rattle.std.specs.Prelude.{ℕ, ◌≡◌, ◌⊎◌, ◌+◌, ◌<◌, true, false, List, [], ◌∷◌, ◌++◌, length, map, Option, Some, None, slice_get}
use Rattle.std.specs.Global.{Vec}
use Rattle.std.specs.List.{flat_map, AllByRecursion}
use Rattle.lt_ids.specs.Ids.{Wait}
use Rattle.lt_rules.specs.declared.call.Call.{Call}
use Rattle.lt_rules.specs.declared.call.Call.TheVariants as calls
use Rattle.lt_rules.specs.declared.call.Reply.{Reply}
use Rattle.lt_rules.specs.declared.call.Reply.TheVariants.{MustWait, TooLong}
use Rattle.lt_entry.specs.declared.entry.Entry.{Entry}
use Rattle.lt_words.specs.History.{IsLetAmong}
use Rattle.lt_script.specs.declared.command.Action.{Action}
use Rattle.lt_script.specs.declared.command.Action.TheVariants as acts
use Rattle.lt_script.specs.declared.command.Command.{Command}
use Rattle.lockrun_words.specs.declared.options.Options.{Options}
use Rattle.lt_runner.specs.declared.answer.AnswerLine.{AnswerLine}
use Rattle.lt_runner.specs.declared.answer.LineAnswer.{LineAnswer}
use Rattle.lt_runner.specs.declared.answer.LineAnswer.TheVariants as answers
use Rattle.lt_runner.specs.declared.outcome.Finish.{Finish}
use Rattle.lt_runner.specs.declared.outcome.Finish.TheVariants.{Done, TurnsOut}
use Rattle.lt_runner.specs.Machine.{numbers_of}
use Rattle.lt_runner.specs.Laws.{latest_number, IsVisitOf}
use Rattle.lt_runner.specs.Standing.{NumbersDiffer}
use Rattle.lt_runner.specs.Gates.{GateAnswers, MayRefuseNext, MayRun, NeverRefuses}
use Rattle.lt_runner.specs.Worked.{is_turns, pass_lines}
use Rattle.lt_runner.specs.Turns.{IsAmong}
use Rattle.lt_tool.specs.Output.{IsOutput}

-- A line that was answered, and the indices of its steps in the histories, in their order.
pub record Answered : Type 0 where
  pub command : Command
  pub answer : LineAnswer
  pub indices : List ℕ

abbrev pub command_of : Answered → Command
command_of a = a.command

abbrev pub answered_line : Answered → AnswerLine
answered_line a = record { line = a.command.line; answer = a.answer }

-- ---- which lines are answered

-- The last answer is `turns`.
abbrev pub LastIsTurns : List Answered → Type 0
LastIsTurns as' = (prefix : List Answered) × (last : Answered) × (as' ≡ prefix ++ last ∷ []) × (is_turns last.answer ≡ true)

-- The answers of a pass are those of a prefix of its lines, one for each line, in their order. The gate may let each of
-- these lines run. If lines are left, the last answer is `turns`, or the gate may refuse the first line that is left. If
-- the run is done, none are left.
pub record IsAnswerPrefix (gate : GateAnswers) (finish : Finish) (lines : List Command) (given : List AnswerLine) (done : List Answered) : Type 0 where
  pub rest : List Command
  pub all : lines ≡ map command_of done ++ rest
  pub given_are : given ≡ map answered_line done
  pub may_run : AllByRecursion (λ a. MayRun gate a.command) done
  pub ended : (rest ≡ []) ⊎ (LastIsTurns done ⊎ MayRefuseNext gate rest)
  pub whole : finish ≡ Done → rest ≡ []

-- The same for all passes from this number on.
abbrev pub AreAnswerPrefixes : GateAnswers → Finish → List Command → ℕ → List (Vec AnswerLine) → List (List Answered) → Type 0
AreAnswerPrefixes gate finish commands n [] [] = Unit {0}
AreAnswerPrefixes gate finish commands n (g ∷ gs) (as' ∷ done) = IsAnswerPrefix gate finish (pass_lines n commands) g.items as' × AreAnswerPrefixes gate finish commands (n + 1) gs done
AreAnswerPrefixes gate finish commands n _ _ = ⊥

-- ---- what an answer says of the histories

-- At this index of the histories is a step of the pass: this call at the key, with this reply.
pub record StandsInHistories (entries : List Entry) (pass at : ℕ) (key : List ℕ) (call : Call) (reply : Reply) : Type 0 where
  pub entry : Entry
  pub there : slice_get entries at ≡ Some entry
  pub pass_is : entry.pass ≡ pass
  pub key_is : entry.key ≡ key
  pub call_is : entry.call ≡ call
  pub reply_is : entry.reply ≡ reply

-- This is the call that the line makes at the key. A look is a look of the request of this number.
abbrev pub IsAsked : Action → Option ℕ → List ℕ → Call → Type 0
IsAsked (acts.Acquire txn ts at) number key call = (key ≡ at) × (call ≡ calls.Acquire txn ts)
IsAsked (acts.Update txn ts at) number key call = (key ≡ at) × (call ≡ calls.Update txn ts)
IsAsked (acts.Finish txn at) number key call = (key ≡ at) × (call ≡ calls.Finish txn)
IsAsked (acts.Look at) number key call = (n : ℕ) × (number ≡ Some n) × (key ≡ at) × (call ≡ calls.Look n)
IsAsked _ number key call = ⊥

-- The line has exactly one step: the call that it makes, with this reply.
pub record LineHasStep (entries : List Entry) (pass : ℕ) (number : Option ℕ) (a : Answered) (reply : Reply) : Type 0 where
  pub at : ℕ
  pub alone : a.indices ≡ at ∷ []
  pub key : List ℕ
  pub call : Call
  pub asked : IsAsked a.command.action number key call
  pub stands : StandsInHistories entries pass at key call reply

-- The last step of the line is a visit to the key by the request of this number, with this reply.
pub record LineEndsInVisit (entries : List Entry) (pass : ℕ) (number : Option ℕ) (a : Answered) (key : List ℕ) (reply : Reply) : Type 0 where
  pub prefix : List ℕ
  pub at : ℕ
  pub all : a.indices ≡ prefix ++ at ∷ []
  pub request : ℕ
  pub number_is : number ≡ Some request
  pub call : Call
  pub visit : IsVisitOf request call
  pub stands : StandsInHistories entries pass at key call reply

-- A wait of the request of this number was let through.
pub record WasLet (entries : List Entry) (pass : ℕ) (number : Option ℕ) : Type 0 where
  pub at : ℕ
  pub entry : Entry
  pub there : slice_get entries at ≡ Some entry
  pub wait : Wait
  pub number_is : number ≡ Some wait.number
  pub lets : IsLetAmong entry.lets pass wait

-- A reply has its step, `waiting KEY` and `long KEY` have a visit that was answered so, and `let` has its let.
abbrev pub AnswerTells : List Entry → ℕ → Option ℕ → Answered → LineAnswer → Type 0
AnswerTells entries pass number a (answers.Replied reply) = LineHasStep entries pass number a reply
AnswerTells entries pass number a (answers.WaitingAt key) = LineEndsInVisit entries pass number a key MustWait
AnswerTells entries pass number a (answers.TooLongAt key) = LineEndsInVisit entries pass number a key TooLong
AnswerTells entries pass number a answers.Let = WasLet entries pass number
AnswerTells entries pass number a _ = Unit {0}

-- Each line of the pass tells this, for the number of the latest `request` answer before it.
abbrev pub AllTell : List Entry → ℕ → Option ℕ → List Answered → Type 0
AllTell entries pass number [] = Unit {0}
AllTell entries pass number (a ∷ as') = AnswerTells entries pass number a a.answer × AllTell entries pass (latest_number number a.answer) as'

-- The same for all passes from this number on.
abbrev pub EachTells : List Entry → ℕ → List (List Answered) → Type 0
EachTells entries n [] = Unit {0}
EachTells entries n (as' ∷ done) = AllTell entries n None as' × EachTells entries (n + 1) done

-- ---- the indices of the steps

abbrev pub indices_of : List Answered → List ℕ
indices_of as' = flat_map (λ a. a.indices) as'

-- If the steps at both indices are of one key, the second index is the greater one.
abbrev pub IsLater : List Entry → ℕ → ℕ → Type 0
IsLater entries m n = (e f : Entry) → slice_get entries m ≡ Some e → slice_get entries n ≡ Some f → e.key ≡ f.key → m < n

abbrev pub IndicesRise : List Entry → List ℕ → Type 0
IndicesRise entries [] = Unit {0}
IndicesRise entries (n ∷ ns) = AllByRecursion (IsLater entries n) ns × IndicesRise entries ns

abbrev pub numbers_in : List Answered → List ℕ
numbers_in as' = flat_map (λ a. numbers_of a.answer) as'

-- ---- turns

abbrev pub NoAnswerIsTurns : List Answered → Type 0
NoAnswerIsTurns as' = AllByRecursion (λ a. is_turns a.answer ≡ false) as'

-- The last answer of one of the passes is `turns`.
abbrev pub SomeTurns : List (List Answered) → Type 0
SomeTurns [] = ⊥
SomeTurns (as' ∷ done) = LastIsTurns as' ⊎ SomeTurns done

-- The pass stopped after these of its lines: the last answer is `turns`, or the gate may refuse the next line.
pub record IsStopped (gate : GateAnswers) (lines : List Command) (done : List Answered) : Type 0 where
  pub rest : List Command
  pub all : lines ≡ map command_of done ++ rest
  pub why : LastIsTurns done ⊎ MayRefuseNext gate rest

-- One of the passes from this number on stopped.
abbrev pub SomeStopped : GateAnswers → List Command → ℕ → List (List Answered) → Type 0
SomeStopped gate commands n [] = ⊥
SomeStopped gate commands n (as' ∷ done) = IsStopped gate (pass_lines n commands) as' ⊎ SomeStopped gate commands (n + 1) done

-- ---- all of it

-- Each command is of one of the passes. Each pass is answered for its lines in their order, up to a line `turns` or one
-- that the gate may refuse. Each reply, `waiting`, `long` and `let` has in the histories what it says. Each step of the
-- histories belongs to exactly one line. Of one pass and key, the steps of a later line come later. No number is answered
-- twice. If the run is done, no line is answered `turns`. Otherwise one of the passes stopped, and if the gate refuses no
-- line, its last answer is `turns`.
pub record TellsAll (gate : GateAnswers) (commands : List Command) (given : List (Vec AnswerLine)) (entries : List Entry) (finish : Finish) : Type 0 where
  pub done : List (List Answered)
  pub among : AllByRecursion (IsAmong (length done)) commands
  pub prefixes : AreAnswerPrefixes gate finish commands 1 given done
  pub each : EachTells entries 1 done
  pub within : AllByRecursion (λ n. n < length entries) (flat_map indices_of done)
  pub once : NumbersDiffer (flat_map indices_of done)
  pub many : length (flat_map indices_of done) ≡ length entries
  pub rise : AllByRecursion (λ as'. IndicesRise entries (indices_of as')) done
  pub numbers : NumbersDiffer (flat_map numbers_in done)
  pub no_turns : finish ≡ Done → AllByRecursion NoAnswerIsTurns done
  pub stopped : finish ≡ TurnsOut → SomeStopped gate commands 1 done
  pub turns : NeverRefuses gate → finish ≡ TurnsOut → SomeTurns done

abbrev pub OutputTells : Type 0
OutputTells = (options : Options) (gate : GateAnswers) (commands : List Command) (text : List ℕ) (finish : Finish) →
    (o : IsOutput options gate commands text finish) → TellsAll gate commands o.ran.answers.items o.legal.entries finish
