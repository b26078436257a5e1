-- What a judge of waits says of the lines that it has taken.
use Rattle.std.specs.Prelude.{ℕ, ◌≡◌, ◌<◌, ◌⊎◌, suc, List, [], ◌∷◌, ◌++◌, length, Option, Some, None, Ok, Err}
use Rattle.std.specs.BTreeMap.{BTreeMap, get}
use Rattle.std.specs.Ordering.{nat_cmp}
use Rattle.lt_trace_waits.specs.declared.open_wait.RequestWait.{RequestWait}
use Rattle.lt_trace_waits.specs.declared.open_wait.WaitFault.{WaitFault}
use Rattle.lt_trace_waits.specs.declared.open_wait.WaitFault.TheVariants.{Shape}
use Rattle.lt_trace_waits.specs.declared.open_wait.WaitMove.{WaitMove}
use Rattle.lt_trace_waits.specs.declared.judge.JudgeError.{JudgeError}
use Rattle.lt_trace_waits.specs.declared.judge.JudgeError.TheVariants.{Refused, Memory, TooLong}
use Rattle.lt_trace_waits.specs.declared.judge.OpenRequest.{OpenRequest}
use Rattle.lt_trace_waits.specs.declared.judge.WaitJudge.{WaitJudge}
use Rattle.lt_trace_waits.specs.Waits.{AllWaits, no_waits, with_request, next, LeadTo, Break}
use Rattle.lt_trace_waits.specs.Moves.{LineSays}

abbrev pub WaitMap : Type 0
WaitMap = BTreeMap ℕ RequestWait

-- the open wait of the request with this number
abbrev pub wait_in : WaitMap → AllWaits
wait_in m number = get nat_cmp m number

-- The request with this number has this open wait, and each other one its own.
abbrev pub SetsWait : WaitMap → ℕ → Option RequestWait → WaitMap → Type 0
SetsWait old number o new = (n : ℕ) → wait_in new n ≡ with_request (wait_in old) number o n

-- The move breaks no rule, and leads to these waits.
pub record Applies (line : ℕ) (old : WaitMap) (m : WaitMove) (new : WaitMap) : Type 0 where
  pub after : Option RequestWait
  pub moved : next line (wait_in old m.number) m ≡ Ok after
  pub sets : SetsWait old m.number after new

-- The move breaks this rule. The other errors say nothing of it.
abbrev pub IsBroken : ℕ → WaitMap → WaitMove → JudgeError → Type 0
IsBroken line old m (Refused at fault) = (at ≡ line) × (next line (wait_in old m.number) m ≡ Err fault)
IsBroken line old m Memory = Unit {0}
IsBroken line old m TooLong = Unit {0}

-- One of the moves of the line breaks this rule.
abbrev pub IsBrokenLine : ℕ → AllWaits → List WaitMove → JudgeError → Type 0
IsBrokenLine line waits moves (Refused at fault) = (at ≡ line) × Break line waits moves fault
IsBrokenLine line waits moves Memory = Unit {0}
IsBrokenLine line waits moves TooLong = Unit {0}

-- ---- several lines

-- Each of these lines, the first of which has this number, breaks no rule, and together they lead to these waits.
abbrev pub LinesLead : ℕ → AllWaits → List (List ℕ) → AllWaits → Type 0
LinesLead line waits [] after = (n : ℕ) → waits n ≡ after n
LinesLead line waits (bytes ∷ lines) after =
    (moves : List WaitMove) × LineSays bytes moves × (mid : AllWaits) × LeadTo line waits moves mid × LinesLead (suc line) mid lines after

-- The line is no line of a trace, or one of its moves breaks this rule and those before it break none.
abbrev pub LineBreaks : ℕ → AllWaits → List ℕ → WaitFault → Type 0
LineBreaks line waits bytes fault =
    ((fault ≡ Shape) × ((moves : List WaitMove) → LineSays bytes moves → ⊥)) ⊎ ((moves : List WaitMove) × LineSays bytes moves × Break line waits moves fault)

-- The judge has taken these lines, which break no rule, and has their open waits.
pub record HasJudged (j : WaitJudge) (lines : List (List ℕ)) : Type 0 where
  pub line : j.line ≡ suc (length lines)
  pub lead : LinesLead 1 no_waits lines (wait_in j.waits)

-- The line breaks no rule, and the judge has taken it.
abbrev pub TakesLine : WaitJudge → List ℕ → WaitJudge → Type 0
TakesLine old bytes new = (lines : List (List ℕ)) → HasJudged old lines → HasJudged new (lines ++ bytes ∷ [])

-- After these lines, which break no rule, comes this one, which breaks this one.
pub record FailsAfter (lines : List (List ℕ)) (bytes : List ℕ) (line : ℕ) (fault : WaitFault) : Type 0 where
  pub number : line ≡ suc (length lines)
  pub waits : AllWaits
  pub lead : LinesLead 1 no_waits lines waits
  pub breaks : LineBreaks line waits bytes fault

-- The refusal is right. The other errors say nothing of the line.
abbrev pub IsRefusal : WaitJudge → List ℕ → JudgeError → Type 0
IsRefusal old bytes (Refused line fault) = (lines : List (List ℕ)) → HasJudged old lines → FailsAfter lines bytes line fault
IsRefusal old bytes Memory = Unit {0}
IsRefusal old bytes TooLong = Unit {0}

-- The request's wait is open, and that of no request with a lesser number.
pub record IsLeastOpen (j : WaitJudge) (r : OpenRequest) : Type 0 where
  pub is_open : wait_in j.waits r.number ≡ Some r.wait
  pub least : (n : ℕ) → n < r.number → wait_in j.waits n ≡ None
