-- What holds of a run of a plan: the facts on its lines, with the plan's lines, its turns and its gate.
--
-- `may_answer` tells of a gate whether it may give an answer before a line of a pass.
use Rattle.std.specs.Prelude.{ℕ, Bool, List, Option, Result}
use Rattle.std.specs.Global.{Vec}
use Rattle.lt_words.specs.Row.{FrontState, PassState}
use Rattle.lt_walk.specs.declared.config.Config.{Config}
use Rattle.lt_script.specs.declared.command.Command.{Command}
use Rattle.lt_runner.specs.declared.answer.AnswerLine.{AnswerLine}
use Rattle.lt_runner.specs.declared.outcome.OutOfMemory.{OutOfMemory}
use Rattle.lt_runner.specs.declared.outcome.Ran.{Ran}
use Rattle.lt_runner.specs.declared.outcome.Work.{Work}
use Rattle.lt_runner.specs.declared.plan.Plan.{Plan}
use Rattle.lt_runner.specs.declared.session.Session.{Session}
use Rattle.lt_runner.specs.Machine.{Rules, rules_of}
use Rattle.lt_runner.specs.Gates.{GateAnswers}
use Rattle.lt_runner.specs.Worked.{ExecutesLine, TakesOn, WorkGoesOn}
use Rattle.lt_runner.specs.Turns.{AreTried, AreWorked, HaveRun, HaveRunInOrder, IsWorkedOf, TakesTurn, TurnsTo}
use Rattle.lt_runner.specs.Ran.{IsRan}

-- The limits of a run of the plan on a table of this configuration.
abbrev pub plan_rules : {G : Type 0} → Config → Plan G → Rules
plan_rules config plan = rules_of config plan.turns

-- The line was executed and answered between these sessions and answers, and the result is whether it used up the turns.
abbrev pub LineTaken : Config → Option ℕ → Command → Session → List AnswerLine → Session → List AnswerLine → Bool → Type 0
LineTaken config turns line old answers new more out = ExecutesLine (rules_of config turns) line old answers new more out

-- ---- one pass

-- The gate let the next line run, and it was executed; or the gate refused it, which ended the pass.
abbrev pub PlanTakesOn : {G : Type 0} → (G → GateAnswers) → Config → Plan G → Session → List AnswerLine → Command → Work → Type 0
PlanTakesOn may_answer config plan session answers line new = TakesOn (plan_rules config plan) (may_answer plan.gate.now) session answers line new

-- The same, unless the pass has ended.
abbrev pub PlanGoesOn : {G : Type 0} → (G → GateAnswers) → Config → Plan G → Work → Command → Work → Type 0
PlanGoesOn may_answer config plan old line new = WorkGoesOn (plan_rules config plan) (may_answer plan.gate.now) old.finish old line new

-- The pass executed its lines of the plan, up to the line where it ended.
abbrev pub PassIsWorked : {G : Type 0} → (G → GateAnswers) → Config → Plan G → PassState → Work → Type 0
PassIsWorked may_answer config plan p w = IsWorkedOf (plan_rules config plan) (may_answer plan.gate.now) plan.commands.now p w

-- ---- all passes

-- Each pass executed its lines of the plan, unless it ran out of memory.
abbrev pub PlanIsTried : {G : Type 0} → (G → GateAnswers) → Config → Plan G → List PassState → Vec (Result Work OutOfMemory) → Type 0
PlanIsTried may_answer config plan ps works = AreTried (plan_rules config plan) (may_answer plan.gate.now) plan.commands.now ps works.items

-- Each pass executed its lines of the plan.
abbrev pub PlanIsWorked : {G : Type 0} → (G → GateAnswers) → Config → Plan G → List PassState → Vec Work → Type 0
PlanIsWorked may_answer config plan ps works = AreWorked (plan_rules config plan) (may_answer plan.gate.now) plan.commands.now ps works.items

-- The pass learned everything that was seen before, and executed the line.
abbrev pub PlanTurnsTo : {G : Type 0} → (G → GateAnswers) → Config → Plan G → Command → FrontState → Work → Work → FrontState → Type 0
PlanTurnsTo may_answer config plan line seen old new seen_then =
    TurnsTo (plan_rules config plan) (may_answer plan.gate.now) line seen old new seen_then

-- So did the pass of the line, and the other passes did nothing.
abbrev pub PlanTakesTurn : {G : Type 0} → (G → GateAnswers) → Config → Plan G → Command → FrontState → List (Option Work) → List (Option Work) → FrontState → Type 0
PlanTakesTurn may_answer config plan line seen old new seen_then =
    TakesTurn (plan_rules config plan) (may_answer plan.gate.now) line seen old new seen_then

-- Each pass executed its lines of the plan, and the lines were executed in their order.
abbrev pub PlanHasRunInOrder : {G : Type 0} → (G → GateAnswers) → Config → Plan G → ℕ → List PassState → Vec Work → Type 0
PlanHasRunInOrder may_answer config plan shards ps works =
    HaveRunInOrder (plan_rules config plan) (may_answer plan.gate.now) shards plan.commands.now ps works.items

-- Each pass executed its lines of the plan. Without turns, the lines were executed in their order.
abbrev pub PlanHasRun : {G : Type 0} → (G → GateAnswers) → Config → Plan G → ℕ → List PassState → Vec Work → Type 0
PlanHasRun may_answer config plan shards ps works = HaveRun (plan_rules config plan) (may_answer plan.gate.now) shards plan.commands.now ps works.items

-- The plan was run on a new table of this many shards, under these limits.
abbrev pub PlanIsRan : {G : Type 0} → (G → GateAnswers) → Rules → ℕ → Plan G → Ran → Type 0
PlanIsRan may_answer rules shards plan ran = IsRan rules (may_answer plan.gate.now) shards plan.commands.now ran
