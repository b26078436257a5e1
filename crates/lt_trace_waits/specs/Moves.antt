-- What a line of the trace says of requests.
use Rattle.std.specs.Prelude.{ℕ, ◌≡◌, suc, if◌then◌else◌, List, [], ◌∷◌, ◌++◌, map, Option, Some, None, codes}
use Rattle.std.specs.Global.{Vec}
use Rattle.std.specs.Str.{bytes_eq}
use Rattle.lt_ids.specs.Ids.{Wait}
use Rattle.lt_ids.specs.declared.limits.TheConstants.{MAX_PASS}
use Rattle.lt_rules.specs.declared.call.Call.{Call}
use Rattle.lt_rules.specs.declared.call.Call.TheVariants.{Visit, Acquire, Update, Finish, Leave, Look}
use Rattle.lt_rules.specs.declared.call.Reply.{Reply}
use Rattle.lt_rules.specs.declared.call.Reply.TheVariants.{MustWait}
use Rattle.lt_text.specs.Maybe.{◌>>=◌}
use Rattle.lt_text.specs.Fields.{number_within, ticket_of}
use Rattle.lt_text.specs.Words.{cut_of}
use Rattle.lt_checker.specs.Lines.{Parts, IsLine, line_text}
use Rattle.lt_trace_waits.specs.declared.open_wait.MoveKind.{MoveKind}
use Rattle.lt_trace_waits.specs.declared.open_wait.MoveKind.TheVariants.{Waits, Passes, Leaves, Lets, Asks, IsTold, GivesUp}
use Rattle.lt_trace_waits.specs.declared.open_wait.WaitMove.{WaitMove}

-- the move of this kind with this ticket
abbrev pub ticket_move : MoveKind → Wait → WaitMove
ticket_move kind ticket = record { kind = kind; number = ticket.number; wait = ticket.wait }

-- ---- the lines of the waiting layer

unfoldable pub kind_of : List ℕ → Option MoveKind
kind_of word =
    if bytes_eq word (codes "asked") then Some Asks
    else if bytes_eq word (codes "told") then Some IsTold
    else if bytes_eq word (codes "gave-up") then Some GivesUp else None

-- a pass, a word and a ticket, with a space between each two
unfoldable pub layer_move : List ℕ → Option WaitMove
layer_move bytes = do
  first ← cut_of 32 bytes
  second ← cut_of 32 first.1
  pass ← number_within 1 (suc MAX_PASS) first.0
  kind ← kind_of second.0
  ticket ← ticket_of second.1
  Some (ticket_move kind ticket)

-- ---- the lines of steps

-- the key, an index, and the step
abbrev pub numbered : List ℕ → List ℕ → List ℕ
numbered key step = (key ++ codes " 1 ") ++ step

abbrev pub visit_kind : Reply → MoveKind
visit_kind MustWait = Waits
visit_kind _ = Passes

abbrev pub call_move : Call → Reply → Option WaitMove
call_move (Visit ticket txn ts access longest) reply = Some (ticket_move (visit_kind reply) ticket)
call_move (Acquire txn ts) reply = None
call_move (Update txn ts) reply = None
call_move (Finish txn) reply = None
call_move (Leave number) reply = Some (record { kind = Leaves; number = number; wait = 0 })
call_move (Look number) reply = None

abbrev pub if_moved : Option WaitMove → List WaitMove
if_moved None = []
if_moved (Some m) = m ∷ []

-- the move of the step's request, and then its lets
abbrev pub step_moves : Parts → List WaitMove
step_moves p = if_moved (call_move p.step.call p.step.reply) ++ map (ticket_move Lets) p.tickets

-- The bytes are the line of a step with these moves: with an index after its key, it is a line of histories.
pub record IsStepOf (bytes : List ℕ) (moves : List WaitMove) : Type 0 where
  pub key : List ℕ
  pub step : List ℕ
  pub is_cut : cut_of 32 bytes ≡ Some (key, step)
  pub parts : Parts
  pub line : IsLine parts
  pub is_text : line_text parts ≡ numbered key step ++ 10 ∷ []
  pub moves_are : moves ≡ step_moves parts

-- The bytes are the line of a step with these moves, or no line of a step.
abbrev pub SaysOfStep : List ℕ → Option (Vec WaitMove) → Type 0
SaysOfStep bytes (Some moves) = IsStepOf bytes moves.items
SaysOfStep bytes None = (moves : List WaitMove) → IsStepOf bytes moves → ⊥

-- ---- any line

abbrev pub SaysBy : Option WaitMove → List ℕ → List WaitMove → Type 0
SaysBy (Some m) bytes moves = moves ≡ m ∷ []
SaysBy None bytes moves = IsStepOf bytes moves

-- The bytes, without a line end, are a line of a trace with these moves.
abbrev pub LineSays : List ℕ → List WaitMove → Type 0
LineSays bytes moves = SaysBy (layer_move bytes) bytes moves

-- The bytes are a line of a trace with these moves, or no line of a trace.
abbrev pub SaysMoves : List ℕ → Option (Vec WaitMove) → Type 0
SaysMoves bytes (Some moves) = LineSays bytes moves.items
SaysMoves bytes None = (moves : List WaitMove) → LineSays bytes moves → ⊥
