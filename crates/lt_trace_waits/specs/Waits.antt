-- The rules for the waits of one request, and of all requests together.
use Rattle.std.specs.Prelude.{ℕ, ◌≡◌, ◌⊎◌, Bool, true, false, nat_eq, nat_le, if◌then◌else◌, List, [], ◌∷◌, Option, Some, None, Result, Ok, Err}
use Rattle.lt_trace_waits.specs.declared.open_wait.RequestWait.{RequestWait}
use Rattle.lt_trace_waits.specs.declared.open_wait.WaitPhase.{WaitPhase}
use Rattle.lt_trace_waits.specs.declared.open_wait.WaitPhase.TheVariants.{Begun, Asked, Let, Told, GaveUp}
use Rattle.lt_trace_waits.specs.declared.open_wait.WaitFault.{WaitFault}
use Rattle.lt_trace_waits.specs.declared.open_wait.WaitFault.TheVariants.{TicketAgain, Unfinished, NoWait, NotAsleep, NotLet}
use Rattle.lt_trace_waits.specs.declared.open_wait.MoveKind.{MoveKind}
use Rattle.lt_trace_waits.specs.declared.open_wait.MoveKind.TheVariants.{Waits, Passes, Leaves, Lets, Asks, IsTold, GivesUp}
use Rattle.lt_trace_waits.specs.declared.open_wait.WaitMove.{WaitMove}

-- ---- one request

-- what a move leaves of the request's open wait, or the rule that it breaks
abbrev pub Moved : Type 0
Moved = Result (Option RequestWait) WaitFault

abbrev pub is_told : WaitPhase → Bool
is_told Told = true
is_told _ = false

-- the wait with this number, in this phase since this line
abbrev pub in_phase : ℕ → ℕ → WaitPhase → Moved
in_phase line wait phase = Ok (Some (record { wait = wait; phase = phase; line = line }))

-- A visit that does not have to wait: the request has no open wait, or was told of its let and visits with a greater wait number. No
-- wait is open after it.
abbrev pub visit : Option RequestWait → ℕ → Moved
visit None wait = Ok None
visit (Some before) wait =
    if nat_le wait before.wait then Err TicketAgain else if is_told before.phase then Ok None else Err Unfinished

abbrev pub begun : ℕ → ℕ → Moved → Moved
begun line wait (Ok o) = in_phase line wait Begun
begun line wait (Err fault) = Err fault

-- A visit that has to wait: the same, and its wait is open after it.
abbrev pub begin : ℕ → Option RequestWait → ℕ → Moved
begin line o wait = begun line wait (visit o wait)

-- a let of the very wait, by its phase
abbrev pub let_in : ℕ → RequestWait → WaitPhase → Moved
let_in line before Begun = Err NotAsleep
let_in line before Asked = in_phase line before.wait Let
let_in line before Let = Err NoWait
let_in line before Told = Err NoWait
let_in line before GaveUp = Ok (Some before)

-- A let: the request sleeps, or gave up and has not left.
abbrev pub let_through : ℕ → Option RequestWait → ℕ → Moved
let_through line None wait = Err NoWait
let_through line (Some before) wait = if nat_eq before.wait wait then let_in line before before.phase else Err NoWait

abbrev pub ask_in : ℕ → ℕ → WaitPhase → Moved
ask_in line wait Begun = in_phase line wait Asked
ask_in line wait _ = Err NoWait

-- The request goes to sleep: it has to wait and does not sleep yet.
abbrev pub ask : ℕ → Option RequestWait → ℕ → Moved
ask line None wait = Err NoWait
ask line (Some before) wait = if nat_eq before.wait wait then ask_in line wait before.phase else Err NoWait

abbrev pub tell_in : ℕ → ℕ → WaitPhase → Moved
tell_in line wait Let = in_phase line wait Told
tell_in line wait _ = Err NotLet

-- The request is told: its ticket was let through, and it was not told before.
abbrev pub tell : ℕ → Option RequestWait → ℕ → Moved
tell line None wait = Err NotLet
tell line (Some before) wait = if nat_eq before.wait wait then tell_in line wait before.phase else Err NotLet

abbrev pub give_up_in : ℕ → ℕ → WaitPhase → Moved
give_up_in line wait Begun = Err NoWait
give_up_in line wait Asked = in_phase line wait GaveUp
give_up_in line wait Let = in_phase line wait GaveUp
give_up_in line wait Told = in_phase line wait GaveUp
give_up_in line wait GaveUp = Err NoWait

-- The request gives up: it sleeps, or was let through and has not visited again.
abbrev pub give_up : ℕ → Option RequestWait → ℕ → Moved
give_up line None wait = Err NoWait
give_up line (Some before) wait = if nat_eq before.wait wait then give_up_in line wait before.phase else Err NoWait

abbrev pub next_by : MoveKind → ℕ → Option RequestWait → ℕ → Moved
next_by Waits line o wait = begin line o wait
next_by Passes line o wait = visit o wait
next_by Leaves line o wait = Ok None
next_by Lets line o wait = let_through line o wait
next_by Asks line o wait = ask line o wait
next_by IsTold line o wait = tell line o wait
next_by GivesUp line o wait = give_up line o wait

-- the request's open wait after a move in this line
abbrev pub next : ℕ → Option RequestWait → WaitMove → Moved
next line o m = next_by m.kind line o m.wait

-- ---- all requests

-- for each request, its open wait
abbrev pub AllWaits : Type 0
AllWaits = ℕ → Option RequestWait

-- no wait is open
abbrev pub no_waits : AllWaits
no_waits number = None

-- the same, but for this request
abbrev pub with_request : AllWaits → ℕ → Option RequestWait → AllWaits
with_request waits number o = λ n. if nat_eq n number then o else waits n

-- The moves of one line, one after the other, lead from the first waits to the second.
abbrev pub LeadTo : ℕ → AllWaits → List WaitMove → AllWaits → Type 0
LeadTo line waits [] after = (n : ℕ) → waits n ≡ after n
LeadTo line waits (m ∷ ms) after =
    (o : Option RequestWait) × (next line (waits m.number) m ≡ Ok o) × LeadTo line (with_request waits m.number o) ms after

-- One of the moves of a line breaks this rule, and those before it break none.
abbrev pub Break : ℕ → AllWaits → List WaitMove → WaitFault → Type 0
Break line waits [] fault = ⊥
Break line waits (m ∷ ms) fault =
    (next line (waits m.number) m ≡ Err fault) ⊎ ((o : Option RequestWait) × (next line (waits m.number) m ≡ Ok o) × Break line (with_request waits m.number o) ms fault)
