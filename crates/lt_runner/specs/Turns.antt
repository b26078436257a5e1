-- The work of all passes of a script, on threads or in turn on one thread.
use Rattle.std.specs.Prelude.{ℕ, ◌≡◌, ◌≤◌, ◌⊎◌, ◌+◌, ◌-◌, ◌==◌, true, Contains, List, [], ◌∷◌, filter, Option, Some, None, Result, IfOk, slice_get, slice_index_or, slice_set}
use Rattle.std.specs.List.{flat_map, AllByRecursion}
use mathlib.Core.List.{IsPrefix}
use Rattle.lt_ids.specs.Ids.{value_of}
use Rattle.lt_entry.specs.declared.entry.Entry.{Entry}
use Rattle.lt_walk.specs.Machine.{Step}
use Rattle.lt_words.specs.declared.event.Event.{Event}
use Rattle.lt_words.specs.History.{IsStatus}
use Rattle.lt_words.specs.Row.{Opening, PassState, SeesMore, FrontState}
use Rattle.lt_script.specs.declared.command.Command.{Command}
use Rattle.lt_runner.specs.declared.outcome.Work.{Work}
use Rattle.lt_runner.specs.declared.outcome.OutOfMemory.{OutOfMemory}
use Rattle.lt_runner.specs.declared.session.Session.{Session}
use Rattle.lt_runner.specs.Sessions.{session_pass, session_request}
use Rattle.lt_runner.specs.Outcomes.{Ascend, ComesAfter, part_of}
use Rattle.lt_runner.specs.Machine.{Rules, ExecutedLine, reads_of}
use Rattle.lt_runner.specs.Gates.{GateAnswers}
use Rattle.lt_runner.specs.Worked.{IsRun, IsWorked, WorkGoesOn, steps_of_executed, pass_lines}

-- The pass executed its lines among these commands, up to the line where it ended.
abbrev pub IsWorkedOf : Rules → GateAnswers → List Command → PassState → Work → Type 0
IsWorkedOf rules gate commands p w = IsWorked rules gate p (pass_lines p.number commands) w

-- The same for all passes.
abbrev pub AreWorked : Rules → GateAnswers → List Command → List PassState → List Work → Type 0
AreWorked rules gate commands [] [] = Unit {0}
AreWorked rules gate commands (p ∷ ps) (w ∷ ws) = IsWorkedOf rules gate commands p w × AreWorked rules gate commands ps ws
AreWorked rules gate commands _ _ = ⊥

-- The pass executed its lines among these commands, up to the line where it ended, and these are the executed
-- lines.
abbrev pub IsRunOf : Rules → GateAnswers → List Command → PassState → List ExecutedLine → Work → Type 0
IsRunOf rules gate commands p lines_done w = IsRun rules gate p (pass_lines p.number commands) lines_done w

-- The same for all passes.
abbrev pub AreRun : Rules → GateAnswers → List Command → List PassState → List (List ExecutedLine) → List Work → Type 0
AreRun rules gate commands [] [] [] = Unit {0}
AreRun rules gate commands (p ∷ ps) (ds ∷ dss) (w ∷ ws) = IsRunOf rules gate commands p ds w × AreRun rules gate commands ps dss ws
AreRun rules gate commands _ _ _ = ⊥

-- The pass executed its lines, unless it ran out of memory.
abbrev pub IsTriedOf : Rules → GateAnswers → List Command → PassState → Result Work OutOfMemory → Type 0
IsTriedOf rules gate commands p r = IfOk r (IsWorkedOf rules gate commands p)

abbrev pub AreTried : Rules → GateAnswers → List Command → List PassState → List (Result Work OutOfMemory) → Type 0
AreTried rules gate commands [] [] = Unit {0}
AreTried rules gate commands (p ∷ ps) (r ∷ rs) = IsTriedOf rules gate commands p r × AreTried rules gate commands ps rs
AreTried rules gate commands _ _ = ⊥

-- The passes have the numbers from n + 1 on.
abbrev pub AreNumbered : ℕ → List PassState → Type 0
AreNumbered n [] = Unit {0}
AreNumbered n (p ∷ ps) = (p.number ≡ n + 1) × AreNumbered (n + 1) ps

-- The command belongs to one of this many passes.
pub record IsAmong (passes : ℕ) (c : Command) : Type 0 where
  pub low : 1 ≤ c.pass
  pub high : c.pass ≤ passes

-- ---- in turn

-- How the line was executed. It was not executed at all if its pass had ended or the gate refused it.
abbrev pub IsExecuted : Command → Option ExecutedLine → Type 0
IsExecuted c None = Unit {0}
IsExecuted c (Some d) = d.line ≡ c

-- The same for each line.
abbrev pub AreExecuted : List Command → List (Option ExecutedLine) → Type 0
AreExecuted [] [] = Unit {0}
AreExecuted (c ∷ cs) (t ∷ ts) = IsExecuted c t × AreExecuted cs ts
AreExecuted _ _ = ⊥

abbrev pub somes : {A : Type 0} → List (Option A) → List A
somes [] = []
somes (None ∷ xs) = somes xs
somes (Some x ∷ xs) = x ∷ somes xs

-- The executed lines of one pass.
abbrev pub lines_done_of : ℕ → List ExecutedLine → List ExecutedLine
lines_done_of pass lines_done = filter (λ d. d.line.pass == pass) lines_done

-- The executed lines of each pass from this number on, taken from all executed lines.
abbrev pub AreOwn : ℕ → List (List ExecutedLine) → List ExecutedLine → Type 0
AreOwn n [] all = Unit {0}
AreOwn n (ds ∷ dss) all = (ds ≡ lines_done_of n all) × AreOwn (n + 1) dss all

-- The lines were executed in their order: in each shard, a step has a greater index than the steps of all earlier
-- lines, of any pass.
pub record AreInOrder (shards : ℕ) (commands : List Command) (lines_done : List (List ExecutedLine)) : Type 0 where
  pub executed : List (Option ExecutedLine)
  pub executed_are : AreExecuted commands executed
  pub own : AreOwn 1 lines_done (somes executed)
  pub ascend : Ascend shards (flat_map steps_of_executed (somes executed))

-- ---- what a line hears, among lines that were executed in their order

abbrev pub reads_word : ExecutedLine → Type 0
reads_word d = reads_of d.line.action d.before ≡ true

-- The step was seen, and the word that the line read is at or above each of its lets for the line's pass.
pub record HearsStep (shards : ℕ) (h : List Event) (d : ExecutedLine) (x : Step) : Type 0 where
  pub entry : Entry
  pub stands : slice_get (part_of shards h x) x.answer.at ≡ Some entry
  pub hears : AllByRecursion (λ t. t.pass ≡ d.line.pass → value_of t.ticket ≤ d.word) entry.lets

-- If the second line reads the word, it hears each step of the first.
abbrev pub HearsLine : ℕ → List Event → ExecutedLine → ExecutedLine → Type 0
HearsLine shards h first second = reads_word second → AllByRecursion (HearsStep shards h second) first.steps

-- The word is that of a let that was seen, or 0, and these steps came after everything that was seen then.
pub record WordIsOf (shards : ℕ) (h : List Event) (pass word : ℕ) (steps : List Step) : Type 0 where
  pub seen : List Event
  pub within : IsPrefix seen h
  pub status : IsStatus seen pass word
  pub after : AllByRecursion (ComesAfter shards seen) steps

-- Each line that reads the word hears each step of the lines before it. The word is that of a let that was seen before
-- the steps of this line and of all later ones, or 0.
abbrev pub AllHear : ℕ → List Event → List ExecutedLine → Type 0
AllHear shards h [] = Unit {0}
AllHear shards h (d ∷ ds) = AllByRecursion (HearsLine shards h d) ds × (reads_word d → WordIsOf shards h d.line.pass d.word (flat_map steps_of_executed (d ∷ ds))) × AllHear shards h ds

-- One of the passes has seen this history.
pub record IsSeenBySome (h : List Event) (ws : List Work) : Type 0 where
  pub work : Work
  pub among : Contains ws work
  pub seen : IsPrefix h (session_pass work.session).seen

-- The lines hear one another in a history that one of the passes has seen, if there are lines.
pub record LinesHear (shards : ℕ) (all : List ExecutedLine) (ws : List Work) : Type 0 where
  pub history : List Event
  pub all_hear : AllHear shards history all
  pub seen : (all ≡ []) ⊎ IsSeenBySome history ws

-- Each pass executed its lines. Without turns, the lines were executed in their order, and each heard the lets of those
-- before it.
pub record HaveRun (rules : Rules) (gate : GateAnswers) (shards : ℕ) (commands : List Command) (ps : List PassState) (ws : List Work) : Type 0 where
  pub lines_done : List (List ExecutedLine)
  pub run : AreRun rules gate commands ps lines_done ws
  pub in_order : rules.turns ≡ None → AreInOrder shards commands lines_done
  pub heard : (e : rules.turns ≡ None) → LinesHear shards (somes (in_order e).executed) ws

-- The same, with the lines executed in their order in any case.
pub record HaveRunInOrder (rules : Rules) (gate : GateAnswers) (shards : ℕ) (commands : List Command) (ps : List PassState) (ws : List Work) : Type 0 where
  pub lines_done : List (List ExecutedLine)
  pub run : AreRun rules gate commands ps lines_done ws
  pub in_order : AreInOrder shards commands lines_done
  pub heard : LinesHear shards (somes in_order.executed) ws

-- The work of a pass, which is in its slot between two of the pass's lines.
abbrev pub IsSlot : Rules → GateAnswers → List Command → PassState → List ExecutedLine → Option Work → Type 0
IsSlot rules gate commands p ds None = ⊥
IsSlot rules gate commands p ds (Some w) = IsRunOf rules gate commands p ds w

-- Each pass executed its lines among these commands, up to the line where it ended, and these are the executed
-- lines.
abbrev pub AreSlots : Rules → GateAnswers → List Command → List PassState → List (List ExecutedLine) → List (Option Work) → Type 0
AreSlots rules gate commands [] [] [] = Unit {0}
AreSlots rules gate commands (p ∷ ps) (ds ∷ dss) (s ∷ ss) = IsSlot rules gate commands p ds s × AreSlots rules gate commands ps dss ss
AreSlots rules gate commands _ _ _ = ⊥

abbrev pub IsReady : Opening → Option Work → Type 0
IsReady of None = ⊥
IsReady of (Some w) = (session_pass w.session).of ≡ of

abbrev pub slot_at : List (Option Work) → ℕ → Option Work
slot_at ss i = slice_index_or ss i None

-- The pass has learned everything that was seen before, and its request is unchanged.
pub record Learns (seen : FrontState) (old new : Session) : Type 0 where
  pub request : session_request new ≡ session_request old
  pub more : SeesMore (session_pass old) (session_pass new)
  pub that : IsPrefix seen.seen (session_pass new).seen
  pub shown : IsPrefix seen.shown (session_pass new).shown

-- The pass learned everything that was seen before and executed the line. What it has seen afterwards is what the next
-- pass learns.
pub record TurnsTo (rules : Rules) (gate : GateAnswers) (c : Command) (seen : FrontState) (before after : Work) (seen_then : FrontState) : Type 0 where
  pub session : Session
  pub learns : Learns seen before.session session
  pub goes_on : WorkGoesOn rules gate before.finish (record before { session = session }) c after
  pub of : seen_then.of ≡ (session_pass after.session).of
  pub seen_is : seen_then.seen ≡ (session_pass after.session).seen
  pub shown_is : seen_then.shown ≡ (session_pass after.session).shown

-- The pass of the command learned everything that was seen before and executed its line. The other passes did
-- nothing. What this pass has seen afterwards is what the next pass learns.
pub record TakesTurn (rules : Rules) (gate : GateAnswers) (c : Command) (seen : FrontState) (old new : List (Option Work)) (seen_then : FrontState) : Type 0 where
  pub before : Work
  pub session : Session
  pub after : Work
  pub was : slot_at old (c.pass - 1) ≡ Some before
  pub learns : Learns seen before.session session
  pub goes_on : WorkGoesOn rules gate before.finish (record before { session = session }) c after
  pub others : new ≡ slice_set old (c.pass - 1) (Some after)
  pub of : seen_then.of ≡ (session_pass after.session).of
  pub seen_is : seen_then.seen ≡ (session_pass after.session).seen
  pub shown_is : seen_then.shown ≡ (session_pass after.session).shown

-- No pass has executed a line.
abbrev pub no_lines_done : List PassState → List (List ExecutedLine)
no_lines_done [] = []
no_lines_done (p ∷ ps) = [] ∷ no_lines_done ps

abbrev pub HaveBegun : List PassState → List (Option Work) → Type 0
HaveBegun ps ss = (rules : Rules) (gate : GateAnswers) → AreSlots rules gate [] ps (no_lines_done ps) ss
